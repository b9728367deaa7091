-- Data that a host sends for an R2T (NVMe over TCP Transport 1.0, 3.6: R2T and H2CData).
use Rattle.std.specs.Prelude.{ℕ, Bool, not, if◌then◌else◌, ◌+◌, ◌==◌, ◌&&◌, nat_le, List, [], ◌∷◌, Option, Result}
use Rattle.std.specs.Option.{ok_or}
use Rattle.common_definitions.specs.Bytes.{field}
use Rattle.common_definitions.specs.Checks.{demand, first_failed, unless_failed}
use Rattle.common_definitions.specs.Readings.{◌>>=◌}
use Rattle.tcp_pdus.specs.declared.common_header.CommonHeader.{CommonHeader}
use Rattle.tcp_pdus.specs.declared.fatal_error.FatalError.{FatalError}
use Rattle.tcp_pdus.specs.declared.fatal_error.FatalError.TheVariants.{InvalidHeaderField, DataOutOfRange}
use Rattle.tcp_pdus.specs.declared.transfer.DataHeader.{DataHeader}
use Rattle.tcp_pdus.specs.declared.transfer.ReadyToTransfer.{ReadyToTransfer}
use Rattle.tcp_pdus.specs.CommonHeader.{is_last}

-- CCCID in bytes 8 and 9, TTAG in 10 and 11, DATAO in 12 to 15, DATAL in 16 to 19
abbrev pub data_header_in : List ℕ → DataHeader
data_header_in header = record {
  command = field header 8 2;
  tag = field header 10 2;
  offset = field header 12 4;
  length = field header 16 4;
}

-- the data goes on where what came ended, and ends within what is wanted
abbrev pub is_in_range : ReadyToTransfer → ℕ → DataHeader → Bool
is_in_range wanted came sent = sent.offset == came && nat_le (sent.offset + sent.length) wanted.length

-- LAST is set just where the data ends what is wanted
abbrev pub tells_end : CommonHeader → ReadyToTransfer → DataHeader → Bool
tells_end common wanted sent =
    let ends = sent.offset + sent.length == wanted.length in if is_last common then ends else not ends

-- the checks of where the data goes, and how much it is,
abbrev pub range_checks : CommonHeader → ReadyToTransfer → ℕ → DataHeader → List (Option FatalError)
range_checks common wanted came sent =
    demand (is_in_range wanted came sent) DataOutOfRange
    ∷ demand (sent.length + 24 == common.pdu_length) (InvalidHeaderField 16)
    ∷ demand (tells_end common wanted sent) (InvalidHeaderField 1) ∷ []

-- and before them those of what it answers, in order
abbrev pub data_checks : CommonHeader → ReadyToTransfer → ℕ → DataHeader → List (Option FatalError)
data_checks common wanted came sent =
    demand (sent.tag == wanted.tag) (InvalidHeaderField 10)
    ∷ demand (sent.command == wanted.command) (InvalidHeaderField 8) ∷ range_checks common wanted came sent

-- whether data may come for what is outstanding, behind so many bytes of it: else the fatal error of the first check that fails
abbrev pub data_checked : CommonHeader → Option ReadyToTransfer → ℕ → DataHeader → Result (Unit {0}) FatalError
data_checked common outstanding came sent =
    ok_or outstanding (InvalidHeaderField 10) >>= λ wanted. unless_failed (first_failed (data_checks common wanted came sent)) tt
