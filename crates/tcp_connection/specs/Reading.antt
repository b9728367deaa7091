-- What the first bytes of a PDU come to (NVMe over TCP Transport 1.0, 3.6): each check has its place in the stream.
use Rattle.std.specs.Prelude.{ℕ, nat_lt, if◌then◌else◌, List, length, take, Option, None, Some, Result, Ok, Err}
use Rattle.tcp_pdus.specs.declared.common_header.CommonHeader.{CommonHeader}
use Rattle.tcp_pdus.specs.declared.fatal_error.FatalError.{FatalError}
use Rattle.tcp_pdus.specs.declared.received.HostPdu.{HostPdu}
use Rattle.tcp_pdus.specs.declared.received.HostPdu.TheVariants.{IcReq, H2cTermReq, CapsuleCmd, H2cData}
use Rattle.tcp_pdus.specs.CommonHeader.{common_header_in}
use Rattle.tcp_pdus.specs.Initialize.{initialize_checked, initialize_request_in}
use Rattle.tcp_pdus.specs.Received.{checked, header_bytes}
use Rattle.tcp_pdus.specs.declared.fatal_error.FatalError.TheVariants.{InvalidHeaderField}
use Rattle.tcp_pdus.specs.declared.transfer.DataHeader.{DataHeader}
use Rattle.tcp_pdus.specs.Transfer.{data_checked, data_header_in}
use Rattle.tcp_connection.specs.declared.expected.Expected.{Expected}
use Rattle.tcp_connection.specs.declared.expected.Progress.{Progress}
use Rattle.tcp_connection.specs.declared.expected.Progress.TheVariants.{Partial, Whole, Failed}
use Rattle.tcp_connection.specs.Transfers.{Transfer, outstanding}

-- why a reading failed
abbrev pub error_of : {X : Type 0} → Result X FatalError → Option FatalError
error_of (Ok x) = None
error_of (Err error) = Some error

-- the fatal error of data that comes for an outstanding R2T, or for none
abbrev pub data_error : CommonHeader → DataHeader → Option Transfer → Option FatalError
data_error common sent None = Some (InvalidHeaderField 10)
data_error common sent (Some t) = error_of (data_checked common (Some t.wanted) (length t.came) sent)

-- the fatal error of a whole header: of an ICReq and of an H2CData. What else is asked of a capsule, whoever deals with it checks
abbrev pub header_error : Expected → CommonHeader → HostPdu → List ℕ → Option FatalError
header_error expected common IcReq header = error_of (initialize_checked (initialize_request_in header))
header_error expected common H2cTermReq header = None
header_error expected common CapsuleCmd header = None
header_error expected common H2cData header =
    let sent = data_header_in header in data_error common sent (outstanding sent.tag expected.transfers)

-- behind the header: a PDU is whole once all of its bytes have come
abbrev pub behind_header : HostPdu → CommonHeader → List ℕ → Option FatalError → Progress × ℕ
behind_header pdu common bytes (Some error) = (Failed error, header_bytes pdu)
behind_header pdu common bytes None =
    if nat_lt (length bytes) common.pdu_length then (Partial, length bytes) else (Whole pdu, common.pdu_length)

-- behind the common header: the header is looked at once it has come
abbrev pub behind_common : Expected → CommonHeader → List ℕ → Result HostPdu FatalError → Progress × ℕ
behind_common expected common bytes (Err error) = (Failed error, 8)
behind_common expected common bytes (Ok pdu) =
    if nat_lt (length bytes) (header_bytes pdu) then (Partial, length bytes)
    else behind_header pdu common bytes (header_error expected common pdu (take (header_bytes pdu) bytes))

-- what bytes at the front of a stream come to, and how many of them are read: all, while they are less than a PDU and no check fails;
-- a whole PDU; or what came of its header, up to the check that fails first
abbrev pub reading : Expected → List ℕ → Progress × ℕ
reading expected bytes =
    if nat_lt (length bytes) 8 then (Partial, length bytes)
    else (let common = common_header_in (take 8 bytes) in behind_common expected common bytes (checked expected.awaits common))
