-- What a PDU grows to at its header.
use Rattle.std.proofs.Common.{◌≡◌, ℕ, ◌+◌, ◌-◌, ◌<◌, ◌≤◌, List, ◌++◌, length, take, drop, None, Some, Ok, sym, ap, ◌∙◌, inl, inr, length-append, arith}
use Rattle.std.proofs.lemmas.Bool.{cases_lt}
use Rattle.std.proofs.lemmas.List.{take-append-le, take_all, take_at}
use Rattle.tcp_pdus.specs.declared.common_header.CommonHeader.{CommonHeader}
use Rattle.tcp_pdus.specs.declared.fatal_error.FatalError.{FatalError}
use Rattle.tcp_pdus.specs.declared.received.HostPdu.{HostPdu}
use Rattle.tcp_pdus.specs.CommonHeader.{common_header_in}
use Rattle.tcp_pdus.specs.Received.{checked, header_bytes}
use Rattle.tcp_connection.specs.declared.expected.Expected.{Expected}
use Rattle.tcp_connection.specs.declared.expected.Progress.{Progress}
use Rattle.tcp_connection.specs.declared.expected.Progress.TheVariants.{Partial, Failed}
use Rattle.tcp_connection.specs.declared.parts.Parts.{Parts}
use Rattle.tcp_connection.specs.Reading.{behind_common, behind_header, header_error}
use Rattle.tcp_connection.specs.steps.Parts.{Adds, Grows, IsHeld, IsPlaced, PassesCommon, PassesHeader, body_of, pending_of}
use Rattle.tcp_connection.proofs.Growing.{GrowsHeader, and_rest, cases, fails_grows, far_length, front_of_header, grown_header, grown_length, grows_on, held_then, left, less_grows, long_enough, most}
use Rattle.tcp_connection.proofs.Lengths.{header_least, header_most, length_fits}
use Rattle.tcp_connection.proofs.Readings.{at_header, at_pdu, less_than_header, no_failure, no_whole}

same_pdu : (e : Expected) (h : CommonHeader) (pdu other : HostPdu) → checked e.awaits h ≡ Ok pdu → checked e.awaits h ≡ Ok other → pdu ≡ other
same_pdu e h pdu other first second = cc

module _ (e : Expected) (old new : Parts) (common : CommonHeader) (pdu : HostPdu) (p : List ℕ) (n : ℕ) (passes : PassesCommon e old common pdu)
    (adds : Adds old.header new.header p (header_bytes pdu - length old.header.items) n) (same : new ≡ record old { header = new.header }) where
  placed : IsPlaced pdu old
  placed = passes.held.placed pdu passes.long (ap (checked e.awaits) (sym passes.is) ∙ passes.passes)

  grows : GrowsHeader e old new p (header_bytes pdu) n
  grows = record { held = passes.held; adds = adds; same = same; behind = placed.in_order; few = header_most pdu }

  -- the common header is still there
  same_front : take 8 new.header.items ≡ take 8 old.header.items
  same_front = ap (take 8) adds.added ∙ take-append-le 8 old.header.items (take n p) passes.long

  pub held : IsHeld e new
  held =
      held_then e old new p (header_bytes pdu) n grows
      (λ other long short found.
      let it : pdu ≡ other =
      same_pdu e common pdu other passes.passes (ap (checked e.awaits) (passes.is ∙ ap common_header_in (sym same_front)) ∙ found) in
      omega (arith, ap header_bytes it))

  pub still_long : 8 ≤ length new.header.items
  still_long = omega (arith, passes.long, grown_header e old new p (header_bytes pdu) n grows)

  still_is : common ≡ common_header_in (take 8 new.header.items)
  still_is = passes.is ∙ ap common_header_in (sym same_front)

  pub no_more : length new.header.items ≤ header_bytes pdu
  no_more = (held.placed pdu still_long (ap (checked e.awaits) (sym still_is) ∙ passes.passes)).most

  -- less than a header
  pub less_grown : length new.header.items < header_bytes pdu
      → Grows e old new p n Partial (behind_common e common (pending_of old ++ p) (Ok pdu))
  less_grown short =
      less_grows e old new p (header_bytes pdu) n grows (behind_common e common (pending_of old ++ p) (Ok pdu)) held short
      (less_than_header e (pending_of old ++ p) common pdu (omega (arith, far_length e old new p (header_bytes pdu) n grows short, short)))

  module _ (enough : header_bytes pdu ≤ length new.header.items) where
    pub whole : length new.header.items ≡ header_bytes pdu
    whole = omega (arith, enough, no_more)

    read_on : behind_common e common (pending_of old ++ p) (Ok pdu)
        ≡ behind_header pdu common (pending_of old ++ p) (header_error e common pdu new.header.items)
    read_on =
        at_header e (pending_of old ++ p) common pdu new.header.items
        (omega (arith, enough, long_enough e old new p (header_bytes pdu) n grows))
        (front_of_header e old new p (header_bytes pdu) n grows (header_bytes pdu) enough
        ∙ take_all (header_bytes pdu) new.header.items (omega (arith, whole)))

    -- what had come before, if it had the whole header
    before : header_bytes pdu ≤ length old.header.items → new.header.items ≡ old.header.items
        → behind_header pdu common (pending_of old) (header_error e common pdu new.header.items) ≡ (Partial, length (pending_of old))
    before was same_header =
        sym (at_header e (pending_of old) common pdu new.header.items
        (omega (arith, was, length-append old.header.items (body_of old)))
        (take_at old.header.items (body_of old) (header_bytes pdu) (omega (arith, ap length same_header, whole)) ∙ sym same_header))
        ∙ passes.less

    -- a header that fails
    pub failed : (error : FatalError) → header_error e common pdu new.header.items ≡ Some error
        → Grows e old new p n (Failed error) (behind_common e common (pending_of old ++ p) (Ok pdu))
    failed error fails =
        elim (cases e old new p (header_bytes pdu) n grows) [
          | inl all ↦
              absurd (no_failure error (header_bytes pdu) (length (pending_of old))
              (ap (behind_header pdu common (pending_of old)) (sym fails) ∙ before all.0 all.2))
          | inr grown ↦
              fails_grows e old new p (header_bytes pdu) n grows error (behind_common e common (pending_of old ++ p) (Ok pdu)) held whole grown.2
              (read_on ∙ ap (behind_header pdu common (pending_of old ++ p)) fails)
        ]

    -- one that passes
    module _ (none : header_error e common pdu new.header.items ≡ None) where
      pub passed : PassesHeader e new common pdu
      passed = record {
        held = held;
        long = whole;
        is = still_is;
        passes = passes.passes;
        no_error = none;
        most = elim (cases e old new p (header_bytes pdu) n grows) [
          | inl all ↦
              (let unchanged : pending_of new ≡ pending_of old =
              ap pending_of same ∙ ap (λ (h : List ℕ). h ++ body_of old) all.2 in
              elim (cases_lt (length (pending_of old)) common.pdu_length) [
                | inl short ↦ omega (arith, ap length unchanged, short)
                | inr long ↦
                    absurd (no_whole pdu common.pdu_length (length (pending_of old))
                    (sym (at_pdu e (pending_of old) common pdu long)
                    ∙ ap (behind_header pdu common (pending_of old)) (sym none) ∙ before all.0 all.2))
              ])
          | inr grown ↦
              (let fits = length_fits e.awaits common pdu passes.passes in
              omega (arith, length-append new.header.items (body_of new), ap length grown.2, whole, header_least pdu, fits.least))
        ];
      }

      pub grown_on : (last : Parts) (more : ℕ) (progress : Progress)
          → Grows e new last (drop n p) more progress (behind_header pdu common (pending_of new ++ drop n p) None)
          → Grows e old last p (n + more) progress (behind_common e common (pending_of old ++ p) (Ok pdu))
      grown_on last more progress g =
          let w = header_bytes pdu in
          grows_on e old new last p n more progress _ _ (grown_length e old new p w n grows) (most e old new p w n grows)
          (and_rest e old new p w n grows) (left e old new p w n grows)
          (ap (λ (x : List ℕ). behind_header pdu common x None) (and_rest e old new p w n grows)
          ∙ ap (behind_header pdu common (pending_of old ++ p)) (sym none) ∙ sym read_on) g
