-- What bytes come to, in its cases.
use Rattle.std.proofs.Common.{◌≡◌, ℕ, ◌≤◌, List, length, take, Option, None, Some, Result, Ok, Err, refl, ap, ◌∙◌, inl, inr, arith}
use Rattle.std.proofs.lemmas.Bool.{cases_lt}
use Rattle.tcp_pdus.specs.declared.common_header.CommonHeader.{CommonHeader}
use Rattle.tcp_pdus.specs.declared.fatal_error.FatalError.{FatalError}
use Rattle.tcp_pdus.specs.declared.received.HostPdu.{HostPdu}
use Rattle.tcp_pdus.specs.CommonHeader.{common_header_in}
use Rattle.tcp_pdus.specs.Received.{checked, header_bytes}
use Rattle.tcp_connection.specs.declared.expected.Expected.{Expected}
use Rattle.tcp_connection.specs.declared.expected.Progress.TheVariants.{Partial, Whole, Failed}
use Rattle.tcp_connection.specs.Reading.{behind_common, behind_header, header_error, reading}
use Rattle.tcp_connection.proofs.Lengths.{header_least, length_fits}
use Rattle.tcp_connection.proofs.Readings.{at_common, at_header, at_pdu, less_than_common, less_than_header, less_than_pdu}

abbrev pub common_of : List ℕ → CommonHeader
common_of bytes = common_header_in (take 8 bytes)

-- a whole header
pub record HasHeader (e : Expected) (bytes : List ℕ) (pdu : HostPdu) : Type 0 where
  pub passes : checked e.awaits (common_of bytes) ≡ Ok pdu
  pub enough : header_bytes pdu ≤ length bytes

-- less than a PDU, one with a fault in its common header or in its header, or a whole one
pub data Comes (e : Expected) (bytes : List ℕ) : Type 0 where
  less : reading e bytes ≡ (Partial, length bytes) → Comes e bytes
  bad_common : (error : FatalError) → 8 ≤ length bytes → checked e.awaits (common_of bytes) ≡ Err error
      → reading e bytes ≡ (Failed error, 8) → Comes e bytes
  bad_header : (pdu : HostPdu) (error : FatalError) → HasHeader e bytes pdu
      → header_error e (common_of bytes) pdu (take (header_bytes pdu) bytes) ≡ Some error
      → reading e bytes ≡ (Failed error, header_bytes pdu) → Comes e bytes
  whole : (pdu : HostPdu) → HasHeader e bytes pdu → header_error e (common_of bytes) pdu (take (header_bytes pdu) bytes) ≡ None
      → (common_of bytes).pdu_length ≤ length bytes → reading e bytes ≡ (Whole pdu, (common_of bytes).pdu_length) → Comes e bytes

module _ (e : Expected) (bytes : List ℕ) (long : 8 ≤ length bytes) where
  read : reading e bytes ≡ behind_common e (common_of bytes) bytes (checked e.awaits (common_of bytes))
  read = at_common e bytes (common_of bytes) long refl

  module _ (pdu : HostPdu) (passes : checked e.awaits (common_of bytes) ≡ Ok pdu) (enough : header_bytes pdu ≤ length bytes) where
    read_header : reading e bytes
        ≡ behind_header pdu (common_of bytes) bytes (header_error e (common_of bytes) pdu (take (header_bytes pdu) bytes))
    read_header =
        read ∙ ap (behind_common e (common_of bytes) bytes) passes
        ∙ at_header e bytes (common_of bytes) pdu (take (header_bytes pdu) bytes) enough refl

    at_the_header : (error : Option FatalError) → header_error e (common_of bytes) pdu (take (header_bytes pdu) bytes) ≡ error → Comes e bytes
    at_the_header (Some error) is =
        bad_header pdu error (record { passes = passes; enough = enough }) is
        (read_header ∙ ap (behind_header pdu (common_of bytes) bytes) is)
    at_the_header None is =
        elim (cases_lt (length bytes) (common_of bytes).pdu_length) [
          | inl short ↦
              less (read_header ∙ ap (behind_header pdu (common_of bytes) bytes) is ∙ less_than_pdu e bytes (common_of bytes) pdu short)
          | inr all ↦
              whole pdu (record { passes = passes; enough = enough }) is all
              (read_header ∙ ap (behind_header pdu (common_of bytes) bytes) is ∙ at_pdu e bytes (common_of bytes) pdu all)
        ]

  at_the_common : (r : Result HostPdu FatalError) → checked e.awaits (common_of bytes) ≡ r → Comes e bytes
  at_the_common (Err error) is = bad_common error long is (read ∙ ap (behind_common e (common_of bytes) bytes) is)
  at_the_common (Ok pdu) is =
      elim (cases_lt (length bytes) (header_bytes pdu)) [
        | inl short ↦
            less (read ∙ ap (behind_common e (common_of bytes) bytes) is ∙ less_than_header e bytes (common_of bytes) pdu short)
        | inr enough ↦
            at_the_header pdu is enough (header_error e (common_of bytes) pdu (take (header_bytes pdu) bytes)) refl
      ]

pub comes : (e : Expected) (bytes : List ℕ) → Comes e bytes
comes e bytes =
    elim (cases_lt (length bytes) 8) [
      | inl short ↦ less (less_than_common e bytes short)
      | inr long ↦ at_the_common e bytes long (checked e.awaits (common_of bytes)) refl
    ]

-- a whole PDU has its header
pub header_within : (e : Expected) (bytes : List ℕ) (pdu : HostPdu) → checked e.awaits (common_of bytes) ≡ Ok pdu
    → header_bytes pdu ≤ (common_of bytes).pdu_length
header_within e bytes pdu passes = omega (arith, header_least pdu, (length_fits e.awaits (common_of bytes) pdu passes).least)
