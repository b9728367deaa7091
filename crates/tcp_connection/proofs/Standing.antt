-- A whole PDU, or one in which a check failed, in its parts.
use Rattle.std.proofs.Common.{◌≡◌, ℕ, ◌+◌, ◌-◌, ◌≤◌, List, [], ◌++◌, length, take, drop, None, IfSome, sym, ap, subst, ◌∙◌, inl, inr, append-nil, length-append, length-drop, arith}
use Rattle.std.proofs.lemmas.Bool.{cases_lt}
use Rattle.std.proofs.lemmas.List.{drop_at, nil_from_length, take-append-le, take_at}
use Rattle.tcp_pdus.specs.declared.fatal_error.FatalError.{FatalError}
use Rattle.tcp_pdus.specs.declared.received.HostPdu.{HostPdu}
use Rattle.tcp_pdus.specs.declared.received.HostPdu.TheVariants.{IcReq, H2cTermReq, CapsuleCmd, H2cData}
use Rattle.tcp_pdus.specs.CommonHeader.{common_header_in}
use Rattle.tcp_pdus.specs.Received.{checked, header_bytes}
use Rattle.tcp_connection.specs.declared.expected.Expected.{Expected}
use Rattle.tcp_connection.specs.declared.expected.Progress.{Progress}
use Rattle.tcp_connection.specs.declared.expected.Progress.TheVariants.{Partial, Whole, Failed}
use Rattle.tcp_connection.specs.declared.parts.Parts.{Parts}
use Rattle.tcp_connection.specs.Receiving.{IsDataOf, IsHeaderOf}
use Rattle.tcp_connection.specs.Reading.{header_error}
use Rattle.tcp_connection.specs.Transfers.{transfer_at}
use Rattle.tcp_pdus.specs.Transfer.{data_header_in}
use Rattle.tcp_pdus.specs.declared.common_header.CommonHeader.{CommonHeader}
use Rattle.tcp_connection.specs.steps.Parts.{IsApart, IsHeld, IsPlaced, IsReceiver, body_of, pending_of, state_of}
use Rattle.tcp_connection.proofs.Comes.{Comes, HasHeader, bad_common, bad_header, common_of, comes, less, whole}
use Rattle.tcp_connection.proofs.Lengths.{data_fits, header_more}

-- a header that has come whole
pub record Stands (e : Expected) (parts : Parts) (pdu : HostPdu) : Type 0 where
  pub long : length parts.header.items ≡ header_bytes pdu
  pub apart : IsApart pdu parts

module _ (e : Expected) (parts : Parts) (held : IsHeld e parts) where
  both : length (pending_of parts) ≡ length parts.header.items + length (body_of parts)
  both = length-append parts.header.items (body_of parts)

  has_common : 8 ≤ length (pending_of parts) → 8 ≤ length parts.header.items
  has_common long = elim (cases_lt (length parts.header.items) 8) [
    | inl short ↦ absurd (omega (arith, long, both, ap length (held.short short), short))
    | inr enough ↦ enough
  ]

  stands : (pdu : HostPdu) → HasHeader e (pending_of parts) pdu → Stands e parts pdu
  stands pdu has =
      let enough : 8 ≤ length parts.header.items = has_common (omega (arith, header_more pdu, has.enough)) in
      let placed : IsPlaced pdu parts =
      held.placed pdu enough
      (ap (λ (h : List ℕ). checked e.awaits (common_header_in h)) (sym (take-append-le 8 parts.header.items (body_of parts) enough)) ∙ has.passes) in
      record {
        long = elim (cases_lt (length parts.header.items) (header_bytes pdu)) [
          | inl short ↦ absurd (omega (arith, has.enough, both, ap length (placed.in_order short), short))
          | inr all ↦ omega (arith, all, placed.most)
        ];
        apart = placed.apart;
      }

-- what the parts of a whole PDU are
pub whole_stands : (e : Expected) (parts : Parts) (pdu : HostPdu) → IsReceiver e parts (Whole pdu) → Comes e (pending_of parts) → Stands e parts pdu
whole_stands e parts pdu receiver (less is) =
    let p : Whole pdu ≡ Partial = ap (λ (r : Progress × ℕ). r.0) (sym receiver.read ∙ is) in absurd cc
whole_stands e parts pdu receiver (bad_common error long fails is) =
    let p : Whole pdu ≡ Failed error = ap (λ (r : Progress × ℕ). r.0) (sym receiver.read ∙ is) in absurd cc
whole_stands e parts pdu receiver (bad_header other error has fails is) =
    let p : Whole pdu ≡ Failed error = ap (λ (r : Progress × ℕ). r.0) (sym receiver.read ∙ is) in absurd cc
whole_stands e parts pdu receiver (whole other has passes all is) =
    let p : Whole other ≡ Whole pdu = ap (λ (r : Progress × ℕ). r.0) (sym is ∙ receiver.read) in
    let q : other ≡ pdu = cc in
    let P : HostPdu → Type 0 = λ it. Stands e parts it in
    subst P q (stands e parts receiver.held other has)

-- nothing stands behind a header in which a check failed
pub failed_stands : (e : Expected) (parts : Parts) (error : FatalError) → IsReceiver e parts (Failed error) → Comes e (pending_of parts)
    → body_of parts ≡ []
failed_stands e parts error receiver (less is) =
    let p : Failed error ≡ Partial = ap (λ (r : Progress × ℕ). r.0) (sym receiver.read ∙ is) in absurd cc
failed_stands e parts error receiver (bad_common other long fails is) =
    let size : length (pending_of parts) ≡ 8 = ap (λ (r : Progress × ℕ). r.1) (sym receiver.read ∙ is) in
    nil_from_length (body_of parts) (omega (arith, size, both e parts receiver.held, has_common e parts receiver.held long))
failed_stands e parts error receiver (bad_header pdu other has fails is) =
    let size : length (pending_of parts) ≡ header_bytes pdu = ap (λ (r : Progress × ℕ). r.1) (sym receiver.read ∙ is) in
    nil_from_length (body_of parts) (omega (arith, size, both e parts receiver.held, (stands e parts receiver.held pdu has).long))
failed_stands e parts error receiver (whole pdu has passes all is) =
    let p : Failed error ≡ Whole pdu = ap (λ (r : Progress × ℕ). r.0) (sym receiver.read ∙ is) in absurd cc

-- ---- what is shown of it

pub header_of : (e : Expected) (parts : Parts) (progress : Progress) → IsReceiver e parts progress
    → IsHeaderOf progress (state_of e parts progress) parts.header.items
header_of e parts Partial receiver = tt
header_of e parts (Whole pdu) receiver =
    sym (take_at parts.header.items (body_of parts) (header_bytes pdu) (whole_stands e parts pdu receiver (comes e (pending_of parts))).long)
header_of e parts (Failed error) receiver =
    sym (ap (λ (b : List ℕ). parts.header.items ++ b) (failed_stands e parts error receiver (comes e (pending_of parts))) ∙ append-nil parts.header.items)

-- what stands behind a header of so many bytes
behind : (e : Expected) (parts : Parts) (n : ℕ) → length parts.header.items ≡ n → drop n (pending_of parts) ≡ body_of parts
behind e parts n long = drop_at parts.header.items (body_of parts) n long

-- it is data that isn't an H2CData's, or that of one
data_is : (e : Expected) (parts : Parts) (n : ℕ) → length parts.header.items ≡ n → parts.transfer.items ≡ []
    → parts.data.items ≡ drop n (pending_of parts)
data_is e parts n long none =
    sym (behind e parts n long ∙ ap (λ (x : List ℕ). parts.data.items ++ x) none ∙ append-nil parts.data.items)

pub data_of : (e : Expected) (parts : Parts) (progress : Progress) → IsReceiver e parts progress
    → IsDataOf progress (state_of e parts progress) parts.data.items
data_of e parts Partial receiver = tt
data_of e parts (Whole IcReq) receiver =
    let s = whole_stands e parts IcReq receiver (comes e (pending_of parts)) in data_is e parts 128 s.long s.apart
data_of e parts (Whole H2cTermReq) receiver =
    let s = whole_stands e parts H2cTermReq receiver (comes e (pending_of parts)) in data_is e parts 24 s.long s.apart
data_of e parts (Whole CapsuleCmd) receiver =
    let s = whole_stands e parts CapsuleCmd receiver (comes e (pending_of parts)) in data_is e parts 72 s.long s.apart
data_of e parts (Whole H2cData) receiver = tt
data_of e parts (Failed error) receiver = tt

pub sent_is : (e : Expected) (parts : Parts) → IsReceiver e parts (Whole H2cData) → drop 24 (pending_of parts) ≡ parts.transfer.items
sent_is e parts receiver =
    let s = whole_stands e parts H2cData receiver (comes e (pending_of parts)) in
    behind e parts 24 s.long ∙ ap (λ (x : List ℕ). x ++ parts.transfer.items) s.apart

-- ---- a whole H2CData

-- its header, and its data, which fits to what came for its R2T before
pub record IsWholeData (e : Expected) (parts : Parts) : Type 0 where
  pub header : take 24 (pending_of parts) ≡ parts.header.items
  pub sent : drop 24 (pending_of parts) ≡ parts.transfer.items
  pub long : length parts.header.items ≡ 24
  pub none : parts.data.items ≡ []
  pub fits : IfSome (transfer_at (data_header_in parts.header.items).tag e.transfers) (λ t. length t.came + length parts.transfer.items ≤ t.wanted.length)

whole_data_by : (e : Expected) (parts : Parts) → IsReceiver e parts (Whole H2cData) → Comes e (pending_of parts) → IsWholeData e parts
whole_data_by e parts receiver (less is) =
    let p : Whole H2cData ≡ Partial = ap (λ (r : Progress × ℕ). r.0) (sym receiver.read ∙ is) in absurd cc
whole_data_by e parts receiver (bad_common error long fails is) =
    let p : Whole H2cData ≡ Failed error = ap (λ (r : Progress × ℕ). r.0) (sym receiver.read ∙ is) in absurd cc
whole_data_by e parts receiver (bad_header other error has fails is) =
    let p : Whole H2cData ≡ Failed error = ap (λ (r : Progress × ℕ). r.0) (sym receiver.read ∙ is) in absurd cc
whole_data_by e parts receiver (whole other has passes all is) =
    let p : Whole other ≡ Whole H2cData = ap (λ (r : Progress × ℕ). r.0) (sym is ∙ receiver.read) in
    let q : other ≡ H2cData = cc in
    let stands = whole_stands e parts H2cData receiver (whole other has passes all is) in
    let common : CommonHeader = common_of (pending_of parts) in
    let header : take 24 (pending_of parts) ≡ parts.header.items = take_at parts.header.items (body_of parts) 24 stands.long in
    let sent : drop 24 (pending_of parts) ≡ parts.transfer.items = sent_is e parts receiver in
    let P : HostPdu → Type 0 = λ pdu. header_error e common pdu (take (header_bytes pdu) (pending_of parts)) ≡ None in
    let fits = data_fits e common parts.header.items (ap (header_error e common H2cData) (sym header) ∙ subst P q passes) in
    let size : length (pending_of parts) ≡ common.pdu_length = ap (λ (r : Progress × ℕ). r.1) (sym receiver.read ∙ is) in
    let rest : common.pdu_length - 24 ≡ length parts.transfer.items =
    omega (arith, size, ap length sent, length-drop 24 (pending_of parts)) in
    let Q : ℕ → Type 0 = λ n. IfSome (transfer_at (data_header_in parts.header.items).tag e.transfers) (λ t. length t.came + n ≤ t.wanted.length) in
    record { header = header; sent = sent; long = stands.long; none = stands.apart; fits = subst Q rest fits }

pub whole_data : (e : Expected) (parts : Parts) → IsReceiver e parts (Whole H2cData) → IsWholeData e parts
whole_data e parts receiver = whole_data_by e parts receiver (comes e (pending_of parts))
