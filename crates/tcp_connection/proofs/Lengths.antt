-- What passes at a common header, or at a header, is no longer than there is room for.
use Rattle.std.proofs.Common.{◌≡◌, ℕ, ◌+◌, ◌-◌, ◌≤◌, ◌<◌, ◌==◌, nat_le, Bool, true, false, cond, List, length, Option, Some, None, Ok, IfSome, refl, subst, sym, lit<, lit≤, arith}
use Rattle.std.specs.Option.{ok_or}
use Rattle.std.proofs.lemmas.Bool.{and_parts, eqb-true, leb-true}
use Rattle.common_definitions.specs.Checks.{first_failed, unless_failed}
use Rattle.common_definitions.specs.Readings.{◌>>=◌}
use Rattle.common_definitions.proofs.Proved.{demanded, none_failed, passed, value_given}
use Rattle.tcp_pdus.specs.declared.common_header.CommonHeader.{CommonHeader}
use Rattle.tcp_pdus.specs.declared.fatal_error.FatalError.{FatalError}
use Rattle.tcp_pdus.specs.declared.received.Awaits.{Awaits}
use Rattle.tcp_pdus.specs.declared.received.HostPdu.{HostPdu}
use Rattle.tcp_pdus.specs.declared.received.HostPdu.TheVariants.{IcReq, H2cTermReq, CapsuleCmd, H2cData}
use Rattle.tcp_pdus.specs.declared.transfer.DataHeader.{DataHeader}
use Rattle.tcp_pdus.specs.declared.transfer.ReadyToTransfer.{ReadyToTransfer}
use Rattle.tcp_pdus.specs.Received.{checked, checks, header_bytes, host_pdu, least_bytes, most_bytes}
use Rattle.tcp_pdus.specs.Transfer.{data_checked, data_checks, data_header_in}
use Rattle.tcp_connection.specs.declared.expected.Expected.{Expected}
use Rattle.tcp_connection.specs.Reading.{data_error, error_of, header_error}
use Rattle.tcp_connection.specs.Transfers.{Transfer, is_outstanding, outstanding_in, transfer_at}

none_fails : (awaits : Awaits) (h : CommonHeader) (pdu : HostPdu) (fault : FatalError) (found : Option HostPdu)
    → (ok_or found fault >>= λ q. unless_failed (first_failed (checks awaits q h)) q) ≡ Ok pdu → first_failed (checks awaits pdu h) ≡ None
none_fails awaits h pdu fault None e = absurd cc
none_fails awaits h pdu fault (Some q) e =
    let same : pdu ≡ q = value_given (first_failed (checks awaits q h)) q pdu (sym e) in
    subst (λ (p : HostPdu). first_failed (checks awaits p h) ≡ None) (sym same) (none_failed (first_failed (checks awaits q h)) q pdu e)

-- a PDU that passes at its common header is as long as its kind may be
pub record LengthFits (awaits : Awaits) (h : CommonHeader) (pdu : HostPdu) : Type 0 where
  pub least : least_bytes pdu ≤ h.pdu_length
  pub most : h.pdu_length ≤ most_bytes awaits pdu

pub length_fits : (awaits : Awaits) (h : CommonHeader) (pdu : HostPdu) → checked awaits h ≡ Ok pdu → LengthFits awaits h pdu
length_fits awaits h pdu e =
    let none = none_fails awaits h pdu _ (host_pdu h.kind) e in
    let parts = and_parts _ _ (demanded _ _ (passed (checks awaits pdu h) 4 none)) in
    record { least = leb-true _ _ parts.0; most = leb-true _ _ parts.1 }

pub header_least : (pdu : HostPdu) → header_bytes pdu ≤ least_bytes pdu
header_least IcReq = lit≤ tt
header_least H2cTermReq = lit≤ tt
header_least CapsuleCmd = lit≤ tt
header_least H2cData = lit≤ tt

pub header_above : (pdu : HostPdu) → 8 < header_bytes pdu
header_above IcReq = lit< tt
header_above H2cTermReq = lit< tt
header_above CapsuleCmd = lit< tt
header_above H2cData = lit< tt

pub header_more : (pdu : HostPdu) → 8 ≤ header_bytes pdu
header_more IcReq = lit≤ tt
header_more H2cTermReq = lit≤ tt
header_more CapsuleCmd = lit≤ tt
header_more H2cData = lit≤ tt

pub header_most : (pdu : HostPdu) → header_bytes pdu ≤ 128
header_most IcReq = lit≤ tt
header_most H2cTermReq = lit≤ tt
header_most CapsuleCmd = lit≤ tt
header_most H2cData = lit≤ tt

-- ---- data

no_error : (fault : Option FatalError) → error_of {X = Unit {0}} (unless_failed fault tt) ≡ None → fault ≡ None
no_error None e = refl
no_error (Some fault) e = absurd cc

in_range : (common : CommonHeader) (wanted : ReadyToTransfer) (came : ℕ) (sent : DataHeader)
    → error_of (data_checked common (Some wanted) came sent) ≡ None → came + (common.pdu_length - 24) ≤ wanted.length
in_range common wanted came sent e =
    let none = no_error (first_failed (data_checks common wanted came sent)) e in
    let ranges = and_parts (sent.offset == came) (nat_le (sent.offset + sent.length) wanted.length)
    (demanded _ _ (passed (data_checks common wanted came sent) 2 none)) in
    let begins : sent.offset ≡ came = eqb-true _ _ ranges.0 in
    let ends : sent.offset + sent.length ≤ wanted.length = leb-true _ _ ranges.1 in
    let long : sent.length + 24 ≡ common.pdu_length = eqb-true _ _ (demanded _ _ (passed (data_checks common wanted came sent) 3 none)) in
    omega (arith, begins, ends, long)

fits_in : (common : CommonHeader) (sent : DataHeader) (place : Option Transfer) → data_error common sent (outstanding_in place) ≡ None
    → IfSome place (λ t. length t.came + (common.pdu_length - 24) ≤ t.wanted.length)
fits_in common sent None e = absurd cc
fits_in common sent (Some t) e = fits_by (is_outstanding t) e
  where
    fits_by : (b : Bool) → data_error common sent (cond b (Some t) None) ≡ None → length t.came + (common.pdu_length - 24) ≤ t.wanted.length
    fits_by true passes = in_range common t.wanted (length t.came) sent passes
    fits_by false passes = absurd cc

-- the data of an H2CData that passes fits to what came for its R2T before
pub data_fits : (e : Expected) (common : CommonHeader) (header : List ℕ) → header_error e common H2cData header ≡ None
    → IfSome (transfer_at (data_header_in header).tag e.transfers) (λ t. length t.came + (common.pdu_length - 24) ≤ t.wanted.length)
data_fits e common header passes =
    let sent = data_header_in header in fits_in common sent (transfer_at sent.tag e.transfers) passes
