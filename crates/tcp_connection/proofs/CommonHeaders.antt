-- What a PDU grows to at its common header.
use Rattle.std.proofs.Common.{◌≡◌, ℕ, ◌+◌, ◌-◌, ◌<◌, ◌≤◌, List, ◌++◌, length, take, drop, Ok, Err, sym, ap, ◌∙◌, inl, inr, length-append, lit≤, arith}
use Rattle.std.proofs.lemmas.List.{take-append-le}
use Rattle.tcp_pdus.specs.declared.common_header.CommonHeader.{CommonHeader}
use Rattle.tcp_pdus.specs.declared.fatal_error.FatalError.{FatalError}
use Rattle.tcp_pdus.specs.declared.received.HostPdu.{HostPdu}
use Rattle.tcp_pdus.specs.CommonHeader.{common_header_in}
use Rattle.tcp_pdus.specs.Received.{checked}
use Rattle.tcp_connection.specs.declared.expected.Expected.{Expected}
use Rattle.tcp_connection.specs.declared.expected.Progress.{Progress}
use Rattle.tcp_connection.specs.declared.expected.Progress.TheVariants.{Partial, Failed}
use Rattle.tcp_connection.specs.declared.parts.Parts.{Parts}
use Rattle.tcp_connection.specs.Reading.{behind_common, reading}
use Rattle.tcp_connection.specs.steps.Parts.{Adds, Grows, IsHeld, IsReceiver, PassesCommon, body_of, pending_of}
use Rattle.tcp_connection.proofs.Growing.{GrowsHeader, and_rest, cases, fails_grows, far_length, front_of_header, grown_length, grows_on, held_then, left, less_grows, long_enough, most}
use Rattle.tcp_connection.proofs.Lengths.{header_above, header_more}
use Rattle.tcp_connection.proofs.Readings.{at_common, less_than_common, less_than_header, no_failure}

module _ (e : Expected) (old new : Parts) (p : List ℕ) (n : ℕ) (receiver : IsReceiver e old Partial)
    (adds : Adds old.header new.header p (8 - length old.header.items) n) (same : new ≡ record old { header = new.header }) where
  grows : GrowsHeader e old new p 8 n
  grows = record { held = receiver.held; adds = adds; same = same; behind = receiver.held.short; few = lit≤ tt }

  held : IsHeld e new
  held = held_then e old new p 8 n grows (λ pdu long short passes. header_more pdu)

  -- less than a common header
  pub less_grown : length new.header.items < 8 → Grows e old new p n Partial (reading e (pending_of old ++ p))
  less_grown short =
      less_grows e old new p 8 n grows (reading e (pending_of old ++ p)) held short
      (less_than_common e (pending_of old ++ p) (omega (arith, far_length e old new p 8 n grows short, short)))

  module _ (common : CommonHeader) (long : 8 ≤ length new.header.items) (is : common ≡ common_header_in (take 8 new.header.items)) where
    read_on : reading e (pending_of old ++ p) ≡ behind_common e common (pending_of old ++ p) (checked e.awaits common)
    read_on =
        at_common e (pending_of old ++ p) common (omega (arith, long, long_enough e old new p 8 n grows))
        (ap common_header_in (front_of_header e old new p 8 n grows 8 long) ∙ sym is)

    -- what had come before, if it had a common header
    before : (8 ≤ length old.header.items) → new.header.items ≡ old.header.items
        → behind_common e common (pending_of old) (checked e.awaits common) ≡ (Partial, length (pending_of old))
    before was same_header =
        sym (at_common e (pending_of old) common
        (omega (arith, was, length-append old.header.items (body_of old)))
        (ap common_header_in (take-append-le 8 old.header.items (body_of old) was ∙ ap (take 8) (sym same_header)) ∙ sym is))
        ∙ receiver.read

    -- a common header that fails
    pub failed : (error : FatalError) → checked e.awaits common ≡ Err error → Grows e old new p n (Failed error) (reading e (pending_of old ++ p))
    failed error fails =
        elim (cases e old new p 8 n grows) [
          | inl whole ↦
              absurd (no_failure error 8 (length (pending_of old))
              (ap (behind_common e common (pending_of old)) (sym fails) ∙ before whole.0 whole.2))
          | inr grown ↦
              fails_grows e old new p 8 n grows error (reading e (pending_of old ++ p)) held (omega (arith, grown.1, long)) grown.2
              (read_on ∙ ap (behind_common e common (pending_of old ++ p)) fails)
        ]

    -- one that passes
    module _ (pdu : HostPdu) (passes : checked e.awaits common ≡ Ok pdu) where
      pub passed : PassesCommon e new common pdu
      passed = record {
        held = held;
        long = long;
        is = is;
        passes = passes;
        less = elim (cases e old new p 8 n grows) [
          | inl whole ↦
              (let P : Parts → Type 0 = λ parts. behind_common e common (pending_of parts) (Ok pdu) ≡ (Partial, length (pending_of parts)) in
              let unchanged : pending_of new ≡ pending_of old =
              ap pending_of same ∙ ap (λ (h : List ℕ). h ++ body_of old) whole.2 in
              ap (λ (x : List ℕ). behind_common e common x (Ok pdu)) unchanged
              ∙ ap (behind_common e common (pending_of old)) (sym passes)
              ∙ before whole.0 whole.2
              ∙ ap (λ (x : List ℕ). (Partial, length x)) (sym unchanged))
          | inr grown ↦
              less_than_header e (pending_of new) common pdu
              (omega (arith, grown.1, ap length grown.2, length-append new.header.items (body_of new), header_above pdu))
        ];
      }

      pub grown_on : (last : Parts) (more : ℕ) (progress : Progress)
          → Grows e new last (drop n p) more progress (behind_common e common (pending_of new ++ drop n p) (Ok pdu))
          → Grows e old last p (n + more) progress (reading e (pending_of old ++ p))
      grown_on last more progress g =
          grows_on e old new last p n more progress _ _ (grown_length e old new p 8 n grows) (most e old new p 8 n grows)
          (and_rest e old new p 8 n grows) (left e old new p 8 n grows)
          (ap (λ (x : List ℕ). behind_common e common x (Ok pdu)) (and_rest e old new p 8 n grows)
          ∙ ap (behind_common e common (pending_of old ++ p)) (sym passes) ∙ sym read_on) g
