-- Frames tell the events whose frames they are.
use Rattle.std.proofs.Common.{◌≡◌, ◌<◌, ◌≤◌, ◌^◌, ◌==◌, ◌&&◌, ℕ, Bool, true, false, not, cond, List, [], ◌∷◌, ◌++◌, length, take, drop, slice_index, Some, None, refl, sym, ap, subst, ◌∙◌, arith, length-append}
use Rattle.std.specs.Prelude.{nat_le}
use Rattle.std.proofs.lemmas.Bool.{and_from, and_parts, cond_both, eq-eqb, eqb-true, le-leb, leb-true}
use Rattle.std.proofs.lemmas.List.{drop_at, take_at, take-append-drop, nil_from_length, length-take}
use Rattle.byteorder.specs.Endian.{little_bytes}
use Rattle.common_definitions.specs.Bytes.{AreBytes, field}
use Rattle.common_definitions.proofs.Proved.{bytes_from, front_spelled}
use Rattle.zone_state.specs.declared.state.FaultState.{FaultState}
use Rattle.zone_state.specs.declared.state.FaultState.TheVariants.{ReadOnly, Offline}
use Rattle.nvme_entry.specs.declared.command.TheConstants.{MOST_TRANSFER}
use Rattle.device_events.specs.ToldEvents.{ToldEvent, Submitted, Turned, Faulted}
use Rattle.event_frames.specs.Frames.{header, state_number}
use Rattle.durable_device.specs.FrameEvents.{IsFrameOf, event_by, fault_in, frame_event, header_in, submission_in, turn_in}
use Rattle.durable_device.specs.Laws.{FramesTellEvents}
use Rattle.durable_device.specs.declared.frame_event.Header.{Header}

-- ---- choices

chosen : {A : Type 0} (b : Bool) (x y : A) → b ≡ true → cond b x y ≡ x
chosen true x y is = refl
chosen false x y is = absurd cc

other : {A : Type 0} (b : Bool) (x y : A) → b ≡ false → cond b x y ≡ y
other true x y is = absurd cc
other false x y is = refl

same_event : (a b : ToldEvent) → Some a ≡ Some b → a ≡ b
same_event a b is = cc

no_event : (e : ToldEvent) → None ≡ Some e → ⊥
no_event e is = cc

-- ---- headers

-- the bytes of these fields
abbrev spelled_by : ℕ → ℕ → ℕ → ℕ → ℕ → ℕ → List ℕ
spelled_by kind part queue number size zeros =
    kind ∷ part ∷ (little_bytes 2 queue ++ little_bytes 4 number ++ little_bytes 4 size ++ little_bytes 4 zeros)

-- bytes begin with a header, of the fields in it
record BeginsHeader (bytes : List ℕ) : Type 0 where
  spelled : bytes ≡ spelled_by (slice_index bytes 0) (slice_index bytes 1) (field bytes 2 2) (field bytes 4 4) (field bytes 8 4) (field bytes 12 4) ++ drop 16 bytes
  part : slice_index bytes 1 < 2 ^ 8
  queue : field bytes 2 2 < 2 ^ 16
  number : field bytes 4 4 < 2 ^ 32

begins_header : (bytes : List ℕ) → 16 ≤ length bytes → AreBytes bytes → BeginsHeader bytes
begins_header (b0 ∷ b1 ∷ b2 ∷ b3 ∷ b4 ∷ b5 ∷ b6 ∷ b7 ∷ b8 ∷ b9 ∷ b10 ∷ b11 ∷ b12 ∷ b13 ∷ b14 ∷ b15 ∷ rest) long are =
    let bytes = b0 ∷ b1 ∷ b2 ∷ b3 ∷ b4 ∷ b5 ∷ b6 ∷ b7 ∷ b8 ∷ b9 ∷ b10 ∷ b11 ∷ b12 ∷ b13 ∷ b14 ∷ b15 ∷ rest in
    let queue = front_spelled 2 (drop 2 bytes) (omega (arith, long)) (bytes_from 2 bytes are) in
    let number = front_spelled 4 (drop 4 bytes) (omega (arith, long)) (bytes_from 4 bytes are) in
    let size = front_spelled 4 (drop 8 bytes) (omega (arith, long)) (bytes_from 8 bytes are) in
    let zeros = front_spelled 4 (drop 12 bytes) (omega (arith, long)) (bytes_from 12 bytes are) in
    record {
      spelled = sym (ap (λ (q : List ℕ). (b0 ∷ b1 ∷ (q ++ little_bytes 4 (field bytes 4 4) ++ little_bytes 4 (field bytes 8 4) ++ little_bytes 4 (field bytes 12 4))) ++ rest) queue
          ∙ ap (λ (n : List ℕ). (b0 ∷ b1 ∷ b2 ∷ b3 ∷ (n ++ little_bytes 4 (field bytes 8 4) ++ little_bytes 4 (field bytes 12 4))) ++ rest) number
          ∙ ap (λ (s : List ℕ). (b0 ∷ b1 ∷ b2 ∷ b3 ∷ b4 ∷ b5 ∷ b6 ∷ b7 ∷ (s ++ little_bytes 4 (field bytes 12 4))) ++ rest) size
          ∙ ap (λ (z : List ℕ). (b0 ∷ b1 ∷ b2 ∷ b3 ∷ b4 ∷ b5 ∷ b6 ∷ b7 ∷ b8 ∷ b9 ∷ b10 ∷ b11 ∷ z) ++ rest) zeros);
      part = are 1;
      queue = omega (arith, are 2, are 3);
      number = omega (arith, are 4, are 5, are 6, are 7);
    }
begins_header _ long are = absurd (omega (arith, long))

-- equal fields have equal bytes
same_bytes : (k k' p p' q q' n n' s s' z z' : ℕ) → k ≡ k' → p ≡ p' → q ≡ q' → n ≡ n' → s ≡ s' → z ≡ z' → spelled_by k p q n s z ≡ spelled_by k' p' q' n' s' z'
same_bytes k k' p p' q q' n n' s s' z z' a b c d e f =
    ap (λ (x : ℕ). spelled_by x p q n s z) a ∙ ap (λ (x : ℕ). spelled_by k' x q n s z) b ∙ ap (λ (x : ℕ). spelled_by k' p' x n s z) c
    ∙ ap (λ (x : ℕ). spelled_by k' p' q' x s z) d ∙ ap (λ (x : ℕ). spelled_by k' p' q' n' x z) e ∙ ap (λ (x : ℕ). spelled_by k' p' q' n' s' x) f

-- ---- a frame tells its event

told_submission : (queue : ℕ) (entry input : List ℕ) → queue < 2 ^ 16 → length entry ≡ 64 → length input ≤ 131072
    → frame_event (header 1 0 queue 0 (length input) ++ (entry ++ input)) ≡ Some (Submitted queue entry input)
unfolding frame_event
told_submission queue entry input fits whole few =
    let bytes = header 1 0 queue 0 (length input) ++ (entry ++ input) in
    let h = header_in bytes in
    let rest : drop 64 (entry ++ input) ≡ input = drop_at entry input 64 whole in
    let front : take 64 (entry ++ input) ≡ entry = take_at entry input 64 whole in
    let long : 64 ≤ length (entry ++ input) = omega (arith, whole, length-append entry input) in
    let size : h.size ≡ length (drop 64 (entry ++ input)) = omega (arith, few, ap length rest) in
    let most : h.size ≤ 131072 = omega (arith, few) in
    let q : h.queue ≡ queue = omega (arith, fits) in
    let test = and_from (nat_le 64 (length (entry ++ input))) (h.part == 0 && h.number == 0 && h.zeros == 0 && h.size == length (drop 64 (entry ++ input)) && nat_le h.size MOST_TRANSFER)
    (le-leb 64 (length (entry ++ input)) long)
    (and_from (h.part == 0 && h.number == 0 && h.zeros == 0 && h.size == length (drop 64 (entry ++ input))) (nat_le h.size MOST_TRANSFER)
    (and_from (h.part == 0 && h.number == 0 && h.zeros == 0) (h.size == length (drop 64 (entry ++ input))) refl (eq-eqb h.size (length (drop 64 (entry ++ input))) size))
    (le-leb h.size 131072 most)) in
    chosen (nat_le 16 (length bytes)) (event_by h (drop 16 bytes)) None (le-leb 16 (length bytes) (omega arith))
    ∙ chosen _ (Some (Submitted h.queue (take 64 (entry ++ input)) (drop 64 (entry ++ input)))) None test
    ∙ ap (λ (x : ℕ). Some (Submitted x (take 64 (entry ++ input)) (drop 64 (entry ++ input)))) q
    ∙ ap (λ (x : List ℕ). Some (Submitted queue x (drop 64 (entry ++ input)))) front ∙ ap (λ (x : List ℕ). Some (Submitted queue entry x)) rest

told_turn : (run : ℕ) → frame_event (header 2 run 0 0 0 ++ []) ≡ Some (Turned run)
unfolding frame_event
told_turn run = refl

told_fault : (zone : ℕ) (state : FaultState) → zone < 2 ^ 32 → frame_event (header 3 (state_number state) 0 zone 0 ++ []) ≡ Some (Faulted zone state)
unfolding frame_event
told_fault zone ReadOnly fits = ap (λ (z : ℕ). Some (Faulted z ReadOnly)) (omega (arith, fits))
told_fault zone Offline fits = ap (λ (z : ℕ). Some (Faulted z Offline)) (omega (arith, fits))

told : (e : ToldEvent) (bytes : List ℕ) → IsFrameOf e bytes → frame_event bytes ≡ Some e
told (Submitted queue entry input) bytes is = ap frame_event is.spelled ∙ told_submission queue entry input is.fits.0 is.fits.1 is.fits.2
told (Turned run) bytes is = ap frame_event is.spelled ∙ told_turn run
told (Faulted zone state) bytes is = ap frame_event is.spelled ∙ told_fault zone state is.fits

-- ---- and no other

module _ (e : ToldEvent) (bytes : List ℕ) (long : 16 ≤ length bytes) (are : AreBytes bytes) where
  abbrev h : Header
  h = header_in bytes

  abbrev behind : List ℕ
  behind = drop 16 bytes

  -- the bytes are a header of these fields and what stands behind it
  parts : (kind part queue number size : ℕ) → h.kind ≡ kind → h.part ≡ part → h.queue ≡ queue → h.number ≡ number → h.size ≡ size → h.zeros ≡ 0
      → bytes ≡ header kind part queue number size ++ behind
  parts kind part queue number size a b c d s z =
      let begins = begins_header bytes long are in
      begins.spelled ∙ ap (λ (l : List ℕ). l ++ behind) (same_bytes h.kind kind h.part part h.queue queue h.number number h.size size h.zeros 0 a b c d s z)

  only_submission : h.kind ≡ 1 → submission_in h behind ≡ Some e → IsFrameOf e bytes
  only_submission kind =
      let tests = h.part == 0 && h.number == 0 && h.zeros == 0 && h.size == length (drop 64 behind) && nat_le h.size MOST_TRANSFER in
      cond_both (nat_le 64 (length behind) && tests) (Some (Submitted h.queue (take 64 behind) (drop 64 behind))) None (λ r. r ≡ Some e → IsFrameOf e bytes)
      (λ test is. subst (λ (x : ToldEvent). IsFrameOf x bytes) (same_event (Submitted h.queue (take 64 behind) (drop 64 behind)) e is) (by test))
      (λ _ is. absurd (no_event e is))
    where
      by : (nat_le 64 (length behind) && (h.part == 0 && h.number == 0 && h.zeros == 0 && h.size == length (drop 64 behind) && nat_le h.size MOST_TRANSFER)) ≡ true → IsFrameOf (Submitted h.queue (take 64 behind) (drop 64 behind)) bytes
      by test =
          let first = and_parts (nat_le 64 (length behind)) _ test in
          let fifth = and_parts (h.part == 0 && h.number == 0 && h.zeros == 0 && h.size == length (drop 64 behind)) (nat_le h.size MOST_TRANSFER) first.1 in
          let fourth = and_parts (h.part == 0 && h.number == 0 && h.zeros == 0) (h.size == length (drop 64 behind)) fifth.0 in
          let third = and_parts (h.part == 0 && h.number == 0) (h.zeros == 0) fourth.0 in
          let second = and_parts (h.part == 0) (h.number == 0) third.0 in
          let enough = leb-true 64 (length behind) first.0 in
          let size = eqb-true h.size (length (drop 64 behind)) fourth.1 in
          let few = leb-true h.size 131072 fifth.1 in
          record {
            fits = ((begins_header bytes long are).queue, omega (arith, enough, length-take 64 behind), omega (arith, size, few));
            spelled = parts 1 0 h.queue 0 (length (drop 64 behind)) kind (eqb-true h.part 0 second.0) refl (eqb-true h.number 0 second.1) size (eqb-true h.zeros 0 third.1)
                ∙ ap (λ (l : List ℕ). header 1 0 h.queue 0 (length (drop 64 behind)) ++ l) (sym (take-append-drop 64 behind));
          }

  only_turn : h.kind ≡ 2 → turn_in h behind ≡ Some e → IsFrameOf e bytes
  only_turn kind =
      cond_both (h.queue == 0 && h.number == 0 && h.size == 0 && h.zeros == 0 && length behind == 0) (Some (Turned h.part)) None (λ r. r ≡ Some e → IsFrameOf e bytes)
      (λ test is. subst (λ (x : ToldEvent). IsFrameOf x bytes) (same_event (Turned h.part) e is) (by test))
      (λ _ is. absurd (no_event e is))
    where
      by : (h.queue == 0 && h.number == 0 && h.size == 0 && h.zeros == 0 && length behind == 0) ≡ true → IsFrameOf (Turned h.part) bytes
      by test =
          let fourth = and_parts (h.queue == 0 && h.number == 0 && h.size == 0 && h.zeros == 0) (length behind == 0) test in
          let third = and_parts (h.queue == 0 && h.number == 0 && h.size == 0) (h.zeros == 0) fourth.0 in
          let second = and_parts (h.queue == 0 && h.number == 0) (h.size == 0) third.0 in
          let first = and_parts (h.queue == 0) (h.number == 0) second.0 in
          record {
            fits = (begins_header bytes long are).part;
            spelled = parts 2 h.part 0 0 0 kind refl (eqb-true h.queue 0 first.0) (eqb-true h.number 0 first.1) (eqb-true h.size 0 second.1) (eqb-true h.zeros 0 third.1)
                ∙ ap (λ (l : List ℕ). header 2 h.part 0 0 0 ++ l) (nil_from_length behind (eqb-true (length behind) 0 fourth.1));
          }

  -- a fault of this state
  fault_by : (state : FaultState) → h.kind ≡ 3 → (h.queue == 0 && h.size == 0 && h.zeros == 0 && length behind == 0) ≡ true → h.part ≡ state_number state → IsFrameOf (Faulted h.number state) bytes
  fault_by state kind test part =
      let third = and_parts (h.queue == 0 && h.size == 0 && h.zeros == 0) (length behind == 0) test in
      let second = and_parts (h.queue == 0 && h.size == 0) (h.zeros == 0) third.0 in
      let first = and_parts (h.queue == 0) (h.size == 0) second.0 in
      record {
        fits = (begins_header bytes long are).number;
        spelled = parts 3 (state_number state) 0 h.number 0 kind part (eqb-true h.queue 0 first.0) refl (eqb-true h.size 0 first.1) (eqb-true h.zeros 0 second.1)
            ∙ ap (λ (l : List ℕ). header 3 (state_number state) 0 h.number 0 ++ l) (nil_from_length behind (eqb-true (length behind) 0 third.1));
      }

  only_state : h.kind ≡ 3 → (h.queue == 0 && h.size == 0 && h.zeros == 0 && length behind == 0) ≡ true
      → cond (h.part == 1) (Some (Faulted h.number ReadOnly)) (cond (h.part == 2) (Some (Faulted h.number Offline)) None) ≡ Some e → IsFrameOf e bytes
  only_state kind test =
      cond_both (h.part == 1) (Some (Faulted h.number ReadOnly)) (cond (h.part == 2) (Some (Faulted h.number Offline)) None) (λ r. r ≡ Some e → IsFrameOf e bytes)
      (λ part is. subst (λ (x : ToldEvent). IsFrameOf x bytes) (same_event (Faulted h.number ReadOnly) e is) (fault_by ReadOnly kind test (eqb-true h.part 1 part)))
      (λ _. cond_both (h.part == 2) (Some (Faulted h.number Offline)) None (λ r. r ≡ Some e → IsFrameOf e bytes)
      (λ part is. subst (λ (x : ToldEvent). IsFrameOf x bytes) (same_event (Faulted h.number Offline) e is) (fault_by Offline kind test (eqb-true h.part 2 part)))
      (λ _ is. absurd (no_event e is)))

  only_fault : h.kind ≡ 3 → (b : Bool) → (h.queue == 0 && h.size == 0 && h.zeros == 0 && length behind == 0) ≡ b
      → cond (not b) None (cond (h.part == 1) (Some (Faulted h.number ReadOnly)) (cond (h.part == 2) (Some (Faulted h.number Offline)) None)) ≡ Some e → IsFrameOf e bytes
  only_fault kind true test is = only_state kind test is
  only_fault kind false test is = absurd (no_event e is)

  only_by : event_by h behind ≡ Some e → IsFrameOf e bytes
  only_by =
      cond_both (h.kind == 1) (submission_in h behind) (cond (h.kind == 2) (turn_in h behind) (cond (h.kind == 3) (fault_in h behind) None)) (λ r. r ≡ Some e → IsFrameOf e bytes)
      (λ kind. only_submission (eqb-true h.kind 1 kind))
      (λ _. cond_both (h.kind == 2) (turn_in h behind) (cond (h.kind == 3) (fault_in h behind) None) (λ r. r ≡ Some e → IsFrameOf e bytes)
      (λ kind. only_turn (eqb-true h.kind 2 kind))
      (λ _. cond_both (h.kind == 3) (fault_in h behind) None (λ r. r ≡ Some e → IsFrameOf e bytes)
      (λ kind. only_fault (eqb-true h.kind 3 kind) (h.queue == 0 && h.size == 0 && h.zeros == 0 && length behind == 0) refl)
      (λ _ is. absurd (no_event e is))))

only : (e : ToldEvent) (bytes : List ℕ) → AreBytes bytes → frame_event bytes ≡ Some e → IsFrameOf e bytes
unfolding frame_event
only e bytes are =
    cond_both (nat_le 16 (length bytes)) (event_by (header_in bytes) (drop 16 bytes)) None (λ r. r ≡ Some e → IsFrameOf e bytes)
    (λ long. only_by e bytes (leb-true 16 (length bytes) long) are)
    (λ _ is. absurd (no_event e is))

pub frames_tell_events : FramesTellEvents
frames_tell_events = record { told = told; only = only }
