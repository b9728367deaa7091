-- What hosts send, and what of it is checked at a PDU's common header (NVMe over TCP Transport 1.0, 3.6).
use Rattle.std.specs.Prelude.{ℕ, Bool, true, false, not, ◌+◌, ◌==◌, ◌&&◌, ◌||◌, nat_le, List, [], ◌∷◌, ◌++◌, Option, Some, None, Result, if◌then◌else◌}
use Rattle.std.specs.Option.{ok_or}
use Rattle.common_definitions.specs.Checks.{demand, first_failed, unless_failed}
use Rattle.common_definitions.specs.Readings.{◌>>=◌}
use Rattle.tcp_pdus.specs.declared.common_header.CommonHeader.{CommonHeader}
use Rattle.tcp_pdus.specs.declared.fatal_error.FatalError.{FatalError}
use Rattle.tcp_pdus.specs.declared.fatal_error.FatalError.TheVariants.{InvalidHeaderField, PduSequence, DataLimitExceeded}
use Rattle.tcp_pdus.specs.declared.received.Awaits.{Awaits}
use Rattle.tcp_pdus.specs.declared.received.Awaits.TheVariants.{Initialization, Commands}
use Rattle.tcp_pdus.specs.declared.received.HostPdu.{HostPdu}
use Rattle.tcp_pdus.specs.declared.received.HostPdu.TheVariants.{IcReq, H2cTermReq, CapsuleCmd, H2cData}
use Rattle.tcp_pdus.specs.declared.transfer.TheConstants.{MAX_H2C_DATA}
use Rattle.tcp_pdus.specs.CommonHeader.{has_digests}

-- the PDU of a PDU-Type, of those that hosts send
abbrev pub host_pdu : ℕ → Option HostPdu
host_pdu kind =
    if kind == 0x00 then Some IcReq else
    if kind == 0x02 then Some H2cTermReq else
    if kind == 0x04 then Some CapsuleCmd else
    if kind == 0x06 then Some H2cData else None

-- HLEN
abbrev pub header_bytes : HostPdu → ℕ
header_bytes IcReq = 128
header_bytes H2cTermReq = 24
header_bytes CapsuleCmd = 72
header_bytes H2cData = 24

-- an ICReq is the first PDU, and no other is one; what asks to terminate the connection may always come
abbrev pub may_come : Awaits → HostPdu → Bool
may_come Initialization IcReq = true
may_come Initialization H2cTermReq = true
may_come Initialization CapsuleCmd = false
may_come Initialization H2cData = false
may_come (Commands in_capsule) IcReq = false
may_come (Commands in_capsule) H2cTermReq = true
may_come (Commands in_capsule) CapsuleCmd = true
may_come (Commands in_capsule) H2cData = true

-- the most bytes of data in a capsule
abbrev pub in_capsule : Awaits → ℕ
in_capsule Initialization = 0
in_capsule (Commands most) = most

-- the least and the most bytes of a PDU: a request to terminate gives back up to 128 bytes of a header, and an H2CData has data
abbrev pub least_bytes : HostPdu → ℕ
least_bytes IcReq = 128
least_bytes H2cTermReq = 24
least_bytes CapsuleCmd = 72
least_bytes H2cData = 25

abbrev pub most_bytes : Awaits → HostPdu → ℕ
most_bytes awaits IcReq = 128
most_bytes awaits H2cTermReq = 152
most_bytes awaits CapsuleCmd = 72 + in_capsule awaits
most_bytes awaits H2cData = 24 + MAX_H2C_DATA

-- an H2CData has at most MAXH2CDATA bytes of data
abbrev pub within_limit : HostPdu → CommonHeader → Bool
within_limit H2cData h = nat_le h.pdu_length (24 + MAX_H2C_DATA)
within_limit _ h = true

-- data, where there is some, begins right behind the header
abbrev pub data_in_place : HostPdu → CommonHeader → Bool
data_in_place IcReq h = true
data_in_place H2cTermReq h = true
data_in_place CapsuleCmd h = nat_le h.pdu_length h.header_length || h.data_offset == h.header_length
data_in_place H2cData h = nat_le h.pdu_length h.header_length || h.data_offset == h.header_length

-- the checks of FLAGS and HLEN,
abbrev pub field_checks : HostPdu → CommonHeader → List (Option FatalError)
field_checks pdu h =
    demand (not (has_digests h)) (InvalidHeaderField 1)
    ∷ demand (h.header_length == header_bytes pdu) (InvalidHeaderField 2) ∷ []

-- and of PLEN and PDO
abbrev pub length_checks : Awaits → HostPdu → CommonHeader → List (Option FatalError)
length_checks awaits pdu h =
    demand (within_limit pdu h) DataLimitExceeded
    ∷ demand (nat_le (least_bytes pdu) h.pdu_length && nat_le h.pdu_length (most_bytes awaits pdu)) (InvalidHeaderField 4)
    ∷ demand (data_in_place pdu h) (InvalidHeaderField 3) ∷ []

-- all checks at the common header, in order
abbrev pub checks : Awaits → HostPdu → CommonHeader → List (Option FatalError)
checks awaits pdu h = demand (may_come awaits pdu) PduSequence ∷ (field_checks pdu h ++ length_checks awaits pdu h)

-- which PDU a common header begins, or the fatal error of the first check that it fails
abbrev pub checked : Awaits → CommonHeader → Result HostPdu FatalError
checked awaits h = ok_or (host_pdu h.kind) (InvalidHeaderField 0) >>= λ pdu. unless_failed (first_failed (checks awaits pdu h)) pdu
