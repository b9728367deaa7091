-- A frame that grows by bytes of a piece, and what has come of it.
use Rattle.std.proofs.Common.{◌≡◌, ℕ, ◌+◌, ◌-◌, ◌<◌, ◌≤◌, ◌^◌, ◌==◌, min, cond, Bool, true, false, List, [], ◌∷◌, ◌++◌, length, take, drop, slice_index, refl, sym, ap, subst, ◌∙◌, append_assoc, append-nil, length-append, length-drop, inl, inr, ◌⊎◌, Option, Some, None, arith}
use Rattle.std.proofs.Math.Seq.{take-add}
use Rattle.std.proofs.lemmas.Bool.{and_left, cases_lt, ne_eqb}
use Rattle.std.proofs.lemmas.List.{drop_at, length-take, nil_from_length, take_all, take_at, take_min}
use Rattle.byteorder.specs.Endian.{little_number}
use Rattle.common_definitions.specs.Bytes.{AreBytes, field}
use Rattle.common_definitions.proofs.Proved.{both_fit, bytes_to}
use Rattle.event_frames.specs.Requests.{Fits, told_of}
use Rattle.event_frames.specs.Frames.{frame_length, request_frame}
use Rattle.event_frames.specs.Streams.{IsHeader, IsPartial, SessionState, Takes}
use Rattle.event_frames.specs.steps.Held.{AreParts, Finishes, Grows, IsBegun, IsHeld, come, entry_bytes, input_bytes, is_submission, pending_of, request_in, wanted}
use Rattle.event_frames.specs.declared.parts.Parts.{Parts}
use Rattle.event_frames.specs.declared.fault.StreamFault.{StreamFault}
use Rattle.event_frames.specs.declared.request.Request.{Request}
use Rattle.event_frames.proofs.Headers.{AreFrameOf, is_frame, sixteen}

-- less than a header asks for nothing yet
unsubmitted : (h : List ℕ) → length h < 16 → is_submission h ≡ false
unsubmitted h short = and_left (length h == 16) (slice_index h 0 == 1) (ne_eqb (length h) 16 (λ e. omega (arith, e, short)))

no_entry : (h : List ℕ) → length h < 16 → entry_bytes h ≡ 0
no_entry h short = ap (λ (b : Bool). cond b 64 0) (unsubmitted h short)

no_input : (h : List ℕ) → length h < 16 → input_bytes h ≡ 0
no_input h short = ap (λ (b : Bool). cond b (field h 8 4) 0) (unsubmitted h short)

joined : (h e i x y z : List ℕ) → (x ≡ []) ⊎ ((e ≡ []) × (i ≡ [])) → (y ≡ []) ⊎ (i ≡ [])
    → ((h ++ x) ++ (e ++ y)) ++ (i ++ z) ≡ ((h ++ e) ++ i) ++ ((x ++ y) ++ z)
joined h e i x y z (inr none) second = rw (none.0, none.1) (simp (append_assoc, append-nil))
joined h e i x y z (inl first) (inl second) = rw (first, second) (simp (append_assoc, append-nil))
joined h e i x y z (inl first) (inr none) = rw (first, none) (simp (append_assoc, append-nil))

module _ (h e i p : List ℕ) (held : AreParts h e i) where
  entry_none : length h < 16 → e ≡ []
  entry_none short = nil_from_length e (omega (arith, held.most_entry, no_entry h short))

  input_none : length h < 16 → i ≡ []
  input_none short = nil_from_length i (omega (arith, held.most_input, no_input h short))

  -- the header, as far as it comes with the piece
  pub front_is : (n : ℕ) → n ≡ min (16 - length h) (length p) → take 16 (((h ++ e) ++ i) ++ p) ≡ h ++ take n p
  front_is n is =
      elim (cases_lt (length h) 16) [
        | inl short ↦
            (let whole : 16 ≡ length h + (16 - length h) = omega (arith, short) in
            ap (λ (x : List ℕ). take 16 (((h ++ x) ++ i) ++ p)) (entry_none short)
            ∙ ap (λ (x : List ℕ). take 16 (((h ++ []) ++ x) ++ p)) (input_none short)
            ∙ ap (λ (x : List ℕ). take 16 (x ++ p)) (append-nil (h ++ []) ∙ append-nil h)
            ∙ ap (λ (k : ℕ). take k (h ++ p)) whole
            ∙ take-add (length h) (16 - length h) (h ++ p)
            ∙ ap (λ (x : List ℕ). x ++ take (16 - length h) (drop (length h) (h ++ p))) (take_at h p (length h) refl)
            ∙ ap (λ (x : List ℕ). h ++ take (16 - length h) x) (drop_at h p (length h) refl)
            ∙ ap (λ (x : List ℕ). h ++ x) (sym (take_min (16 - length h) p) ∙ ap (λ (k : ℕ). take k p) (sym is)))
        | inr long ↦
            (let all : length h ≡ 16 = omega (arith, long, held.most_header) in
            let none : n ≡ 0 = omega (arith, is, all) in
            let grouped : ((h ++ e) ++ i) ++ p ≡ h ++ ((e ++ i) ++ p) =
            ap (λ (x : List ℕ). x ++ p) (append_assoc h e i) ∙ append_assoc h (e ++ i) p in
            ap (take 16) grouped ∙ take_at h ((e ++ i) ++ p) 16 all ∙ sym (ap (λ (k : ℕ). h ++ take k p) none ∙ append-nil h))
      ]

  module _ (n1 n2 n3 : ℕ) (h' e' i' : List ℕ) (right : IsHeader h') (fit : AreBytes p)
      (c1 : n1 ≡ min (16 - length h) (length p)) (a1 : h' ≡ h ++ take n1 p)
      (c2 : n2 ≡ min (entry_bytes h' - length e) (length p - n1)) (a2 : e' ≡ e ++ take n2 (drop n1 p))
      (c3 : n3 ≡ min (input_bytes h' - length i) (length p - (n1 + n2))) (a3 : i' ≡ i ++ take n3 (drop (n1 + n2) p)) where
    -- the header had come whole, or nothing had come behind it
    stage : ((n1 ≡ 0) × (h' ≡ h)) ⊎ ((length h < 16) × (e ≡ []) × (i ≡ []))
    stage =
        elim (cases_lt (length h) 16) [
          | inl short ↦ inr (short, entry_none short, input_none short)
          | inr long ↦ (let none : n1 ≡ 0 = omega (arith, c1, long) in inl (none, a1 ∙ ap (λ (k : ℕ). h ++ take k p) none ∙ append-nil h))
        ]

    fits : (length e ≤ entry_bytes h') × (length i ≤ input_bytes h') × (length e < entry_bytes h' → length i ≡ 0)
    fits =
        elim stage [
          | inl same ↦
              subst (λ (x : List ℕ). (length e ≤ entry_bytes x) × (length i ≤ input_bytes x) × (length e < entry_bytes x → length i ≡ 0)) (sym same.1)
              (held.most_entry, held.most_input, held.in_order)
          | inr none ↦ (omega (arith, ap length none.1), omega (arith, ap length none.2), λ _. ap length none.2)
        ]

    header_long : length h' ≡ length h + n1
    header_long = omega (arith, ap length a1, length-append h (take n1 p), length-take n1 p, c1)

    entry_long : length e' ≡ length e + n2
    entry_long = omega (arith, ap length a2, length-append e (take n2 (drop n1 p)), length-take n2 (drop n1 p), length-drop n1 p, c2)

    input_long : length i' ≡ length i + n3
    input_long = omega (arith, ap length a3, length-append i (take n3 (drop (n1 + n2) p)), length-take n3 (drop (n1 + n2) p), length-drop (n1 + n2) p, c3)

    late : length e' < entry_bytes h' → length i' ≡ 0
    late short =
        let none : length i ≡ 0 = fits.2 (omega (arith, short, entry_long)) in
        omega (arith, short, none, entry_long, input_long, c2, c3, fits.0)

    all_right : AreParts h' e' i'
    all_right = record {
      bytes = subst AreBytes (sym a1) (both_fit h (take n1 p) held.bytes (bytes_to n1 p fit));
      right = right;
      most_header = omega (arith, header_long, c1, held.most_header);
      most_entry = omega (arith, entry_long, c2, fits.0);
      most_input = omega (arith, input_long, c3, fits.1);
      in_order = late;
    }

    far : length h' + length e' + length i' < 16 + entry_bytes h' + input_bytes h' → n1 + n2 + n3 ≡ length p
    far short = omega (arith, short, header_long, entry_long, input_long, c1, c2, c3, fits.0, fits.1, held.most_header)

    some : length h + length e + length i < 16 + entry_bytes h + input_bytes h → length h' + length e' + length i' ≡ 16 + entry_bytes h' + input_bytes h'
        → 0 < n1 + n2 + n3
    some short whole =
        elim stage [
          | inl same ↦ omega (arith, short, whole, ap entry_bytes same.1, ap input_bytes same.1, header_long, entry_long, input_long)
          | inr none ↦ omega (arith, short, whole, none.0, ap length none.1, ap length none.2, header_long, entry_long, input_long)
        ]

    grown : (h' ++ e') ++ i' ≡ ((h ++ e) ++ i) ++ take (n1 + n2 + n3) p
    grown =
        let x = take n1 p in
        let y = take n2 (drop n1 p) in
        let z = take n3 (drop (n1 + n2) p) in
        let whole : take (n1 + n2 + n3) p ≡ (x ++ y) ++ z = take-add (n1 + n2) n3 p ∙ ap (λ (front : List ℕ). front ++ z) (take-add n1 n2 p) in
        let first : (x ≡ []) ⊎ ((e ≡ []) × (i ≡ [])) =
        elim stage [ inl same ↦ inl (ap (λ (k : ℕ). take k p) same.0) | inr none ↦ inr (none.1, none.2) ] in
        let second : (y ≡ []) ⊎ (i ≡ []) =
        elim (cases_lt (length e) (entry_bytes h')) [
          | inl short ↦ inr (nil_from_length i (fits.2 short))
          | inr full ↦ (let none : n2 ≡ 0 = omega (arith, c2, full) in inl (ap (λ (k : ℕ). take k (drop n1 p)) none))
        ] in
        ap (λ (v : List ℕ). (v ++ e') ++ i') a1 ∙ ap (λ (v : List ℕ). ((h ++ x) ++ v) ++ i') a2 ∙ ap (λ (v : List ℕ). ((h ++ x) ++ (e ++ y)) ++ v) a3
        ∙ joined h e i x y z first second ∙ ap (λ (v : List ℕ). ((h ++ e) ++ i) ++ v) (sym whole)

pub grows : (old new : Parts) (p : List ℕ) (n1 n2 n3 : ℕ) → IsHeld old → IsHeader new.header.items → AreBytes p
    → n1 ≡ min (16 - length old.header.items) (length p) → new.header.items ≡ old.header.items ++ take n1 p
    → n2 ≡ min (entry_bytes new.header.items - length old.entry.items) (length p - n1) → new.entry.items ≡ old.entry.items ++ take n2 (drop n1 p)
    → n3 ≡ min (input_bytes new.header.items - length old.input.items) (length p - (n1 + n2)) → new.input.items ≡ old.input.items ++ take n3 (drop (n1 + n2) p)
    → Grows old new p (n1 + n2 + n3)
grows old new p n1 n2 n3 held right fit c1 a1 c2 a2 c3 a3 =
    let h = old.header.items in
    let e = old.entry.items in
    let i = old.input.items in
    let h' = new.header.items in
    let e' = new.entry.items in
    let i' = new.input.items in
    record {
      within = omega (arith, c1, c2, c3);
      grown = grown h e i p held n1 n2 n3 h' e' i' right fit c1 a1 c2 a2 c3 a3;
      held = all_right h e i p held n1 n2 n3 h' e' i' right fit c1 a1 c2 a2 c3 a3;
      far = far h e i p held n1 n2 n3 h' e' i' right fit c1 a1 c2 a2 c3 a3;
      some = some h e i p held n1 n2 n3 h' e' i' right fit c1 a1 c2 a2 c3 a3;
    }

-- ---- what has come

lengths_agree : (t : Bool) (size : ℕ) → cond t (80 + size) 16 ≡ 16 + cond t 64 0 + cond t size 0
lengths_agree true size = omega arith
lengths_agree false size = omega arith

wanted_is : (h e i : List ℕ) → length h ≡ 16 → frame_length ((h ++ e) ++ i) ≡ wanted h
wanted_is h e i =
    sixteen (λ (head : List ℕ). frame_length ((head ++ e) ++ i) ≡ wanted head)
    (λ b0 b1 b2 b3 b4 b5 b6 b7 b8 b9 b10 b11 b12 b13 b14 b15. lengths_agree (b0 == 1) (little_number 4 (b8 ∷ b9 ∷ b10 ∷ b11 ∷ []))) h

short_of : (h e i : List ℕ) → AreParts h e i → length h + length e + length i < wanted h → IsPartial ((h ++ e) ++ i)
short_of h e i held short =
    let long : length ((h ++ e) ++ i) ≡ length h + length e + length i = omega (arith, length-append (h ++ e) i, length-append h e) in
    elim (cases_lt (length h) 16) [
      | inl less ↦
          (let alone : (h ++ e) ++ i ≡ h =
          ap (λ (x : List ℕ). (h ++ x) ++ i) (entry_none h e i [] held less) ∙ ap (λ (x : List ℕ). (h ++ []) ++ x) (input_none h e i [] held less)
          ∙ append-nil (h ++ []) ∙ append-nil h in
          record {
            header = subst IsHeader (sym (ap (take 16) alone ∙ take_all 16 h held.most_header)) held.right;
            short = inl (omega (arith, ap length alone, less));
          })
      | inr all ↦
          (let whole : length h ≡ 16 = omega (arith, all, held.most_header) in
          record {
            header = subst IsHeader (sym (ap (take 16) (append_assoc h e i) ∙ take_at h (e ++ i) 16 whole)) held.right;
            short = inr (omega (arith, long, short, wanted_is h e i whole));
          })
    ]

pub is_partial : (parts : Parts) → IsBegun parts → IsPartial (pending_of parts)
is_partial parts begun = short_of parts.header.items parts.entry.items parts.input.items begun.held begun.short

pub is_begun : (old new : Parts) (request : Option Request) (size : ℕ) → IsHeld old → Finishes old new request size → IsBegun new
is_begun old new None size held finishes =
    subst IsBegun (sym finishes.0) (record { held = held; short = finishes.1 })
is_begun old new (Some r) size held finishes = finishes.2

-- ---- what a session takes

module _ (s : SessionState) (begun grown new : Parts) (place place' size count : ℕ) (p : List ℕ) (pending_is : pending_of begun ≡ s.pending) (place_is : place ≡ s.place)
    (begins : IsBegun begun) (grows : Grows begun grown p count) (small : place < 2 ^ 64) (added : place' ≡ min (place + size) 18446744073709551615) where
  whole_frame : come grown ≡ wanted grown.header.items
      → AreFrameOf grown.header.items grown.entry.items grown.input.items (request_in grown.header.items grown.entry.items grown.input.items)
  whole_frame whole =
      let h = grown.header.items in
      let e = grown.entry.items in
      let i = grown.input.items in
      let held = grows.held in
      let all : length h + length e + length i ≡ 16 + entry_bytes h + input_bytes h = whole in
      is_frame h e i (omega (arith, all, held.most_header, held.most_entry, held.most_input)) held.right held.bytes
      (omega (arith, all, held.most_header, held.most_entry, held.most_input)) (omega (arith, all, held.most_header, held.most_entry, held.most_input))

  pub takes : (request : Option Request) (fault : Option StreamFault) → Finishes grown new request size
      → Takes s (record { pending = pending_of new; place = place'; fault = fault }) p count request
  takes None fault f =
      let all : count ≡ length p = grows.far f.1 in
      record {
        all = all;
        pending = ap pending_of f.0 ∙ grows.grown ∙ ap (λ (x : List ℕ). x ++ take count p) pending_is
            ∙ ap (λ (x : List ℕ). s.pending ++ x) (take_all count p (omega (arith, all)));
        place = omega (arith, added, f.2, small, place_is);
      }
  takes (Some r) fault f =
      let frame = whole_frame f.1 in
      let frame_is : request_frame (told_of r) ≡ pending_of grown = ap request_frame f.0 ∙ frame.frame in
      record {
        some = grows.some begins.short f.1;
        fits = subst Fits (sym f.0) frame.fits;
        frame = frame_is ∙ grows.grown ∙ ap (λ (x : List ℕ). x ++ take count p) pending_is;
        pending = f.3;
        place = omega (arith, added, place_is, f.4, ap length frame_is, length-append (grown.header.items ++ grown.entry.items) grown.input.items, length-append grown.header.items grown.entry.items);
      }
