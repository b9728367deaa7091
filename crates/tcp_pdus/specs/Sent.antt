-- The PDUs that a controller sends (NVMe over TCP Transport 1.0, 3.6).
use Rattle.std.specs.Prelude.{ℕ, ◌+◌, ◌-◌, List, ◌++◌, length, replicate}
use Rattle.byteorder.specs.Endian.{little_bytes}
use Rattle.tcp_pdus.specs.declared.fatal_error.FatalError.{FatalError}
use Rattle.tcp_pdus.specs.declared.transfer.ReadyToTransfer.{ReadyToTransfer}
use Rattle.tcp_pdus.specs.declared.transfer.TheConstants.{MAX_H2C_DATA}
use Rattle.tcp_pdus.specs.CommonHeader.{common_header_bytes}
use Rattle.tcp_pdus.specs.FatalErrors.{information_of, status_number}
use Rattle.tcp_pdus.specs.Initialize.{data_begin}

-- ICResp, Initialize Connection Response: PFV and CPDA 0, no digests, MAXH2CDATA, and zeros
abbrev pub ic_resp : List ℕ
ic_resp =
    common_header_bytes (record { kind = 0x01; flags = 0; header_length = 128; data_offset = 0; pdu_length = 128 })
    ++ replicate 4 0 ++ little_bytes 4 MAX_H2C_DATA ++ replicate 112 0

-- CapsuleResp, Response Capsule: a completion queue entry
abbrev pub capsule_resp : List ℕ → List ℕ
capsule_resp completion =
    common_header_bytes (record { kind = 0x05; flags = 0; header_length = 24; data_offset = 0; pdu_length = 24 }) ++ completion

-- R2T, Ready to Transfer: CCCID, TTAG, R2TO 0, since all of the data is wanted, R2TL, and zeros
abbrev pub r2t : ReadyToTransfer → List ℕ
r2t wanted =
    common_header_bytes (record { kind = 0x09; flags = 0; header_length = 24; data_offset = 0; pdu_length = 24 })
    ++ little_bytes 2 wanted.command ++ little_bytes 2 wanted.tag ++ replicate 4 0 ++ little_bytes 4 wanted.length ++ replicate 4 0

-- C2HData, Controller to Host Data Transfer, of all of a command's data: LAST (bit 2) and not SUCCESS (bit 3); CCCID, zeros, DATAO 0,
-- DATAL, zeros; and the data, from where the host wants it on
abbrev pub c2h_data_header : ℕ → ℕ → ℕ → List ℕ
c2h_data_header alignment command size =
    common_header_bytes (record {
      kind = 0x07;
      flags = 4;
      header_length = 24;
      data_offset = data_begin alignment;
      pdu_length = data_begin alignment + size;
    })
    ++ little_bytes 2 command ++ replicate 2 0 ++ replicate 4 0 ++ little_bytes 4 size ++ replicate 4 0

abbrev pub c2h_data : ℕ → ℕ → List ℕ → List ℕ
c2h_data alignment command bytes =
    c2h_data_header alignment command (length bytes) ++ replicate (data_begin alignment - 24) 0 ++ bytes

-- C2HTermReq, Controller to Host Terminate Connection Request: FES, FEI, zeros; and what came of the header of the PDU in error
abbrev pub c2h_term_req_header : FatalError → ℕ → List ℕ
c2h_term_req_header error size =
    common_header_bytes (record { kind = 0x03; flags = 0; header_length = 24; data_offset = 0; pdu_length = 24 + size })
    ++ little_bytes 2 (status_number error) ++ little_bytes 4 (information_of error) ++ replicate 10 0

abbrev pub c2h_term_req : FatalError → List ℕ → List ℕ
c2h_term_req error header = c2h_term_req_header error (length header) ++ header
