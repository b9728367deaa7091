-- The request to initialize a connection (NVMe over TCP Transport 1.0, 3.6: ICReq), and how it has data aligned.
use Rattle.std.specs.Prelude.{ℕ, ◌+◌, ◌*◌, ◌/◌, ◌==◌, nat_le, List, [], ◌∷◌, Option, Result, slice_index}
use Rattle.common_definitions.specs.Bytes.{field}
use Rattle.common_definitions.specs.Checks.{demand, first_failed, unless_failed}
use Rattle.tcp_pdus.specs.declared.fatal_error.FatalError.{FatalError}
use Rattle.tcp_pdus.specs.declared.fatal_error.FatalError.TheVariants.{InvalidHeaderField, UnsupportedParameter}
use Rattle.tcp_pdus.specs.declared.initialize.InitializeRequest.{InitializeRequest}
use Rattle.tcp_pdus.specs.declared.initialize.TheConstants.{MOST_ALIGNMENT}

-- PFV in bytes 8 and 9, HPDA in byte 10
abbrev pub initialize_request_in : List ℕ → InitializeRequest
initialize_request_in header = record { version = field header 8 2; alignment = slice_index header 10 }

-- the checks of an ICReq, in order
abbrev pub initialize_checks : InitializeRequest → List (Option FatalError)
initialize_checks request =
    demand (request.version == 0) (UnsupportedParameter 8)
    ∷ demand (nat_le request.alignment MOST_ALIGNMENT) (InvalidHeaderField 10) ∷ []

-- HPDA, or the fatal error of the first check that fails
abbrev pub initialize_checked : InitializeRequest → Result ℕ FatalError
initialize_checked request = unless_failed (first_failed (initialize_checks request)) request.alignment

-- where the data of a C2HData begins: at the least multiple of HPDA + 1 dwords that is 24 or more
abbrev pub data_begin : ℕ → ℕ
data_begin alignment = let bytes = 4 * (alignment + 1) in (bytes + 23) / bytes * bytes
