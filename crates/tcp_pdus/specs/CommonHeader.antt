-- The common header of a PDU (NVMe over TCP Transport 1.0, 3.6).
use Rattle.std.specs.Prelude.{ℕ, Bool, not, ◌/◌, ◌%◌, ◌==◌, List, ◌∷◌, slice_index}
use Rattle.byteorder.specs.Endian.{little_bytes}
use Rattle.common_definitions.specs.Bytes.{field}
use Rattle.tcp_pdus.specs.declared.common_header.CommonHeader.{CommonHeader}

-- PDU-Type, FLAGS, HLEN and PDO in a byte each, PLEN in four
abbrev pub common_header_bytes : CommonHeader → List ℕ
common_header_bytes h = h.kind ∷ h.flags ∷ h.header_length ∷ h.data_offset ∷ little_bytes 4 h.pdu_length

-- the common header that the first eight bytes of a PDU spell
abbrev pub common_header_in : List ℕ → CommonHeader
common_header_in bytes = record {
  kind = slice_index bytes 0;
  flags = slice_index bytes 1;
  header_length = slice_index bytes 2;
  data_offset = slice_index bytes 3;
  pdu_length = field bytes 4 4;
}

-- FLAGS, bits 0 and 1: HDGSTF and DDGSTF, a digest of the header and one of the data
abbrev pub has_digests : CommonHeader → Bool
has_digests h = not (h.flags % 4 == 0)

-- FLAGS, bit 2, of a PDU with data: LAST
abbrev pub is_last : CommonHeader → Bool
is_last h = h.flags / 4 % 2 == 1
