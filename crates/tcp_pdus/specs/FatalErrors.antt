-- Fatal errors (NVMe over TCP Transport 1.0, 3.6: H2CTermReq and C2HTermReq).
use Rattle.std.specs.Prelude.{ℕ}
use Rattle.tcp_pdus.specs.declared.fatal_error.FatalError.{FatalError}
use Rattle.tcp_pdus.specs.declared.fatal_error.FatalError.TheVariants.{InvalidHeaderField, PduSequence, DataOutOfRange, DataLimitExceeded, UnsupportedParameter}

-- Fatal Error Status
abbrev pub status_number : FatalError → ℕ
status_number (InvalidHeaderField offset) = 1
status_number PduSequence = 2
status_number DataOutOfRange = 4
status_number DataLimitExceeded = 5
status_number (UnsupportedParameter offset) = 6

-- Fatal Error Information: where in the header the field in error begins, for the statuses that ask for it
abbrev pub information_of : FatalError → ℕ
information_of (InvalidHeaderField offset) = offset
information_of PduSequence = 0
information_of DataOutOfRange = 0
information_of DataLimitExceeded = 0
information_of (UnsupportedParameter offset) = offset
