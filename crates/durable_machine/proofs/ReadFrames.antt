-- What is read after a gate tells whether a batch stands there.
use Rattle.std.proofs.Common.{◌≡◌, ◌≢◌, ◌⊎◌, inl, inr, ◌<◌, ◌≤◌, ◌+◌, ◌-◌, ℕ, List, ◌∷◌, ◌++◌, length, take, drop, get_or, refl, sym, ◌∙◌, ap, subst, arith, append_assoc, length-append, length-take, length-drop, take-append-drop}
use Rattle.std.proofs.lemmas.List.{take_at, drop_at, drop_more, take_all}
use Rattle.durable_machine.specs.Events.{spelled, AreEvents}
use Rattle.durable_machine.specs.Seals.{HasSealLength, IsSealOf}
use Rattle.durable_machine.specs.Journal.{BeginsBatch, BeginsClosed, BeginsNoBatch, payload_length}
use Rattle.durable_machine.proofs.Frames.{same_events, payload_of}
use Rattle.durable_machine.proofs.Sealing.{begins_closed, read_length}

-- the bytes of a slice from an offset on
pub rest_of : (n : ℕ) (bytes : List ℕ) → take (length bytes - n) (drop n bytes) ≡ drop n bytes
rest_of n bytes = take_all (length bytes - n) (drop n bytes) (omega (arith, length-drop n bytes))

-- a seal has 21 bytes or none
pub seal_sizes : (payload seal : List ℕ) (n : ℕ) → HasSealLength n payload → n ≤ length payload → seal ≡ take n payload → (length seal ≡ 0) ⊎ (length seal ≡ 21)
seal_sizes payload seal n (inl has) room is = inr (omega (arith, has.0, room, ap length is, length-take n payload))
seal_sizes payload seal n (inr has) room is = inl (omega (arith, has.0, room, ap length is, length-take n payload))

-- a payload's seal is read by its first byte
module _ (at : ℕ) (bytes payload : List ℕ) (n : ℕ) (is_payload : payload ≡ drop 4096 bytes) (has : HasSealLength n payload) where
  module _ (es : List (List ℕ)) (rest : List ℕ) (begins : BeginsBatch at es rest bytes) where
    payload_parts : payload ≡ begins.is.seal ++ (spelled es ++ 0 ∷ (begins.is.padding ++ rest))
    payload_parts = is_payload ∙ ap (λ (l : List ℕ). drop 4096 l) begins.parts ∙ payload_of at es begins.frame rest begins.is

    seal_size : n ≡ length begins.is.seal
    seal_size = read_length at es begins.is.seal (0 ∷ (begins.is.padding ++ rest)) payload n begins.is.sealed payload_parts has

  -- which the payload has
  pub no_room : length payload < n → BeginsNoBatch at bytes
  no_room short es rest begins =
      absurd (omega (
        arith,
        short,
        seal_size es rest begins,
        ap length (payload_parts es rest begins),
        length-append begins.is.seal (spelled es ++ 0 ∷ (begins.is.padding ++ rest)),
      ))

  module _ (seal body told tail : List ℕ) (is_seal : seal ≡ take n payload) (is_body : body ≡ drop n payload) (events : List (List ℕ)) (taken : ℕ) (are : AreEvents events taken body)
      (is_told : told ≡ take taken body) (is_tail : tail ≡ drop taken body) where
    pub front_events : told ≡ spelled events
    front_events = is_told ∙ ap (λ (l : List ℕ). take taken l) are.parts ∙ take_at (spelled events) are.rest taken (sym are.counted)

    size_told : length told ≡ taken
    size_told = ap length front_events ∙ sym are.counted

    joins : body ≡ told ++ tail
    joins = sym (take-append-drop taken body) ∙ ap (λ (l : List ℕ). l ++ drop taken body) (sym is_told) ∙ ap (λ (l : List ℕ). told ++ l) (sym is_tail)

    all : payload ≡ seal ++ body
    all = sym (take-append-drop n payload) ∙ ap (λ (l : List ℕ). l ++ drop n payload) (sym is_seal) ∙ ap (λ (l : List ℕ). seal ++ l) (sym is_body)

    module _ (es : List (List ℕ)) (rest : List ℕ) (begins : BeginsBatch at es rest bytes) where
      same : spelled es ≡ told
      same =
          ap spelled (same_events at es events (begins.is.padding ++ rest) payload body begins.frame n taken begins.is (payload_parts es rest begins) (seal_size es rest begins) is_body are)
          ∙ sym front_events

      the_seal : seal ≡ begins.is.seal
      the_seal =
          is_seal ∙ ap (λ (l : List ℕ). take n l) (payload_parts es rest begins)
          ∙ take_at begins.is.seal (spelled es ++ 0 ∷ (begins.is.padding ++ rest)) n (sym (seal_size es rest begins))

      sealed : IsSealOf at told seal
      sealed = subst (λ (l : List ℕ). IsSealOf at l seal) same (subst (λ (l : List ℕ). IsSealOf at (spelled es) l) (sym the_seal) begins.is.sealed)

      behind : tail ≡ 0 ∷ (begins.is.padding ++ rest)
      behind =
          is_tail
          ∙ ap (λ (l : List ℕ). drop taken l)
          (is_body ∙ ap (λ (l : List ℕ). drop n l) (payload_parts es rest begins)
          ∙ drop_at begins.is.seal (spelled es ++ 0 ∷ (begins.is.padding ++ rest)) n (sym (seal_size es rest begins)))
          ∙ drop_at (spelled es) (0 ∷ (begins.is.padding ++ rest)) taken (ap length same ∙ size_told)

      whole_size : length (begins.is.seal ++ spelled es) ≡ n + taken
      whole_size = omega (arith, length-append begins.is.seal (spelled es), ap length same, size_told, seal_size es rest begins)

      enough : payload_length (n + taken) ≤ length payload
      enough =
          omega (
            arith,
            ap payload_length whole_size,
            begins.is.size,
            ap length (payload_parts es rest begins),
            length-append begins.is.seal (spelled es ++ 0 ∷ (begins.is.padding ++ rest)),
            length-append (spelled es) (0 ∷ (begins.is.padding ++ rest)),
            length-append begins.is.padding rest,
            length-append begins.is.seal (spelled es),
            length-append (begins.is.seal ++ spelled es) (0 ∷ begins.is.padding),
          )

    pub not_sealed : (IsSealOf at told seal → ⊥) → BeginsNoBatch at bytes
    not_sealed other es rest begins = other (sealed es rest begins)

    pub too_short : length payload < payload_length (n + taken) → BeginsNoBatch at bytes
    too_short short es rest begins = absurd (omega (arith, short, enough es rest begins))

    pub not_closed : get_or tail 0 0 ≢ 0 → BeginsNoBatch at bytes
    not_closed other es rest begins = other (ap (λ (l : List ℕ). get_or l 0 0) (behind es rest begins))

    pub begins : IsSealOf at told seal → (BeginsClosed bytes → ⊥) → 4096 ≤ length bytes → n ≤ length payload → payload_length (n + taken) ≤ length payload → get_or tail 0 0 ≡ 0
        → (begins : BeginsBatch at events (drop (payload_length (n + taken)) payload) bytes) × (4096 + n ≡ 4096 + length begins.is.seal)
    begins is_sealed not_shut long has_room whole zero_behind =
        let sector = take 4096 bytes in
        let past = drop 1 tail in
        let k = payload_length (n + taken) - (n + taken) - 1 in
        let size_seal : length seal ≡ n = omega (arith, ap length is_seal, length-take n payload, has_room) in
        let size : length payload ≡ n + taken + length tail = omega (arith, ap length all, length-append seal body, ap length joins, length-append told tail, size_told, size_seal) in
        let tail_parts : tail ≡ 0 ∷ past = drop_more tail 0 0 (omega (arith, size, whole)) ∙ ap (λ (z : ℕ). z ∷ drop 1 tail) zero_behind in
        let told_size : length (seal ++ spelled events) ≡ n + taken = omega (arith, length-append seal (spelled events), size_seal, are.counted) in
        let framed : length (seal ++ spelled events ++ 0 ∷ take k past) ≡ payload_length (n + taken) =
        omega (arith, length-append (seal ++ spelled events) (0 ∷ take k past), length-take k past, length-drop 1 tail, size, whole, told_size) in
        let parts : payload ≡ (seal ++ spelled events ++ 0 ∷ take k past) ++ drop k past =
        all
        ∙ ap (λ (l : List ℕ). seal ++ l) (joins ∙ ap (λ (l : List ℕ). l ++ tail) front_events)
        ∙ ap (λ (l : List ℕ). seal ++ (spelled events ++ l)) (tail_parts ∙ ap (λ (l : List ℕ). 0 ∷ l) (sym (take-append-drop k past)))
        ∙ sym (append_assoc seal (spelled events) (0 ∷ (take k past ++ drop k past)))
        ∙ sym (append_assoc (seal ++ spelled events) (0 ∷ take k past) (drop k past)) in
        let left : drop (payload_length (n + taken)) payload ≡ drop k past =
        ap (λ (l : List ℕ). drop (payload_length (n + taken)) l) parts ∙ drop_at (seal ++ spelled events ++ 0 ∷ take k past) (drop k past) (payload_length (n + taken)) framed in (
          record {
            frame = sector ++ (seal ++ spelled events ++ 0 ∷ take k past);
            is = record {
              sized = are.sized;
              sector = sector;
              is_open = record { size = omega (arith, length-take 4096 bytes, long); written = λ shut_gate. not_shut (begins_closed bytes shut_gate) };
              seal = seal;
              sealed = subst (λ (l : List ℕ). IsSealOf at l seal) front_events is_sealed;
              padding = take k past;
              size = framed ∙ ap payload_length (sym told_size);
              parts = refl;
            };
            parts =
                sym (take-append-drop 4096 bytes)
                ∙ ap (λ (l : List ℕ). sector ++ l) (sym is_payload ∙ parts ∙ ap (λ (l : List ℕ). (seal ++ spelled events ++ 0 ∷ take k past) ++ l) (sym left))
                ∙ sym (append_assoc sector (seal ++ spelled events ++ 0 ∷ take k past) (drop (payload_length (n + taken)) payload));
          },
          ap (λ (m : ℕ). 4096 + m) (sym size_seal),
        )
