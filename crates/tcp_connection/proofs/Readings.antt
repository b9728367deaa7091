-- What bytes come to, place by place.
use Rattle.std.proofs.Common.{◌≡◌, ℕ, ◌<◌, ◌≤◌, nat_lt, Bool, cond, List, length, take, None, Ok, ap, ◌∙◌}
use Rattle.std.proofs.lemmas.Bool.{lt-ltb, le-ltb}
use Rattle.tcp_pdus.specs.declared.common_header.CommonHeader.{CommonHeader}
use Rattle.tcp_pdus.specs.declared.fatal_error.FatalError.{FatalError}
use Rattle.tcp_pdus.specs.declared.received.HostPdu.{HostPdu}
use Rattle.tcp_pdus.specs.CommonHeader.{common_header_in}
use Rattle.tcp_pdus.specs.Received.{checked, header_bytes}
use Rattle.tcp_connection.specs.declared.expected.Expected.{Expected}
use Rattle.tcp_connection.specs.declared.expected.Progress.{Progress}
use Rattle.tcp_connection.specs.declared.expected.Progress.TheVariants.{Partial, Whole, Failed}
use Rattle.tcp_connection.specs.Reading.{behind_common, behind_header, header_error, reading}

-- a choice, where the first number is below the second, and where it isn't
where_less : {X : Type 0} (m n : ℕ) (x y : X) → m < n → cond (nat_lt m n) x y ≡ x
where_less {X} m n x y less = ap (λ (b : Bool). cond b x y) (lt-ltb m n less)

where_not : {X : Type 0} (m n : ℕ) (x y : X) → n ≤ m → cond (nat_lt m n) x y ≡ y
where_not {X} m n x y most = ap (λ (b : Bool). cond b x y) (le-ltb m n most)

module _ (e : Expected) (bytes : List ℕ) where
  -- less than a common header
  pub less_than_common : length bytes < 8 → reading e bytes ≡ (Partial, length bytes)
  less_than_common short = where_less (length bytes) 8 _ _ short

  -- a common header
  pub at_common : (common : CommonHeader) → 8 ≤ length bytes → common_header_in (take 8 bytes) ≡ common
      → reading e bytes ≡ behind_common e common bytes (checked e.awaits common)
  at_common common long is =
      where_not (length bytes) 8 _ _ long ∙ ap (λ (h : CommonHeader). behind_common e h bytes (checked e.awaits h)) is

  module _ (common : CommonHeader) (pdu : HostPdu) where
    -- less than a header
    pub less_than_header : length bytes < header_bytes pdu → behind_common e common bytes (Ok pdu) ≡ (Partial, length bytes)
    less_than_header short = where_less (length bytes) (header_bytes pdu) _ _ short

    -- a header
    pub at_header : (header : List ℕ) → header_bytes pdu ≤ length bytes → take (header_bytes pdu) bytes ≡ header
        → behind_common e common bytes (Ok pdu) ≡ behind_header pdu common bytes (header_error e common pdu header)
    at_header header long is =
        where_not (length bytes) (header_bytes pdu) _ _ long
        ∙ ap (λ (h : List ℕ). behind_header pdu common bytes (header_error e common pdu h)) is

    -- less than a PDU
    pub less_than_pdu : length bytes < common.pdu_length → behind_header pdu common bytes None ≡ (Partial, length bytes)
    less_than_pdu short = where_less (length bytes) common.pdu_length _ _ short

    -- a PDU
    pub at_pdu : common.pdu_length ≤ length bytes → behind_header pdu common bytes None ≡ (Whole pdu, common.pdu_length)
    at_pdu long = where_not (length bytes) common.pdu_length _ _ long

-- what is partial is no failure, and no whole PDU
pub no_failure : (error : FatalError) (m n : ℕ) → ◌≡◌ {A = Progress × ℕ} (Failed error, m) (Partial, n) → ⊥
no_failure error m n e = let p : Failed error ≡ Partial = ap (λ (x : Progress × ℕ). x.0) e in cc

pub no_whole : (pdu : HostPdu) (m n : ℕ) → ◌≡◌ {A = Progress × ℕ} (Whole pdu, m) (Partial, n) → ⊥
no_whole pdu m n e = let p : Whole pdu ≡ Partial = ap (λ (x : Progress × ℕ). x.0) e in cc
