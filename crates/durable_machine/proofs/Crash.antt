-- What a file stands for by the sector of a gate, and the end of a file that is repaired.
use Rattle.std.proofs.Common.{◌≡◌, ◌⊎◌, inl, inr, ◌+◌, ◌-◌, ℕ, List, [], ◌∷◌, ◌++◌, length, take, drop, replicate, refl, sym, ◌∙◌, ap, arith, append_assoc, length-append}
use Rattle.std.proofs.lemmas.List.{take_at, take_all, drop_all, append-nil, length-replicate, replicate-append-replicate}
use Rattle.stored_file.specs.File.{is_written}
use Rattle.durable_machine.specs.Events.{spelled, AreSized}
use Rattle.durable_machine.specs.Seals.{seal_of}
use Rattle.durable_machine.specs.Journal.{closed_gate, IsOpenGate, AreFrames, HasBatches, StandsFor, payload_length}
use Rattle.durable_machine.specs.Staging.{IsPayload}
use Rattle.durable_machine.proofs.Frames.{one_more_frame}
use Rattle.durable_machine.proofs.Sealing.{length-closed, same_or_not, shut}

one_more : (n : ℕ) → replicate {A = ℕ} (1 + n) 0 ≡ 0 ∷ replicate {A = ℕ} n 0
one_more n = sym (replicate-append-replicate {A = ℕ} 1 n 0)

-- zeros up to a closed gate, and it
zeros_then : (n : ℕ) → replicate {A = ℕ} ((1 + n) + 4096) 0 ≡ (0 ∷ replicate {A = ℕ} n 0) ++ closed_gate
unfolding closed_gate
zeros_then n = sym (replicate-append-replicate {A = ℕ} (1 + n) 4096 0) ∙ ap (λ (l : List ℕ). l ++ replicate {A = ℕ} 4096 0) (one_more n)

-- a seal, events and zeros
pub is_payload : (at : ℕ) (added : List (List ℕ)) (events told bytes : List ℕ) (whole n : ℕ) → events ≡ spelled added → told ≡ seal_of at events ++ events → whole ≡ payload_length (length told) → n ≡ length told
    → bytes ≡ take (whole + 4096) told ++ replicate {A = ℕ} (whole + 4096 - n) 0 → IsPayload at added bytes
is_payload at added events told bytes whole n are sealed size counted written =
    let is : bytes ≡ take (whole + 4096) told ++ replicate {A = ℕ} (whole + 4096 - length told) 0 = written ∙ ap (λ (k : ℕ). take (whole + 4096) told ++ replicate {A = ℕ} (whole + 4096 - k) 0) counted in
    let pad : whole ≡ length told + (1 + (whole - length told - 1)) = omega (arith, size) in
    let zeros : whole + 4096 - length told ≡ (1 + (whole - length told - 1)) + 4096 = omega (arith, pad) in
    let parted : told ≡ seal_of at (spelled added) ++ spelled added = sealed ∙ ap (λ (l : List ℕ). seal_of at l ++ l) are in
    let n_zeros = whole - length told - 1 in
    record {
      padding = replicate {A = ℕ} n_zeros 0;
      size = omega (arith, size, pad, ap length parted, ap (λ (l : List ℕ). payload_length (length l)) parted, length-append (seal_of at (spelled added) ++ spelled added) (0 ∷ replicate {A = ℕ} n_zeros 0), length-replicate {A = ℕ} n_zeros 0);
      parts =
          is
          ∙ ap (λ (l : List ℕ). l ++ replicate {A = ℕ} (whole + 4096 - length told) 0) (take_all (whole + 4096) told (omega (arith, pad)) ∙ parted)
          ∙ ap (λ (k : ℕ). (seal_of at (spelled added) ++ spelled added) ++ replicate {A = ℕ} k 0) zeros
          ∙ ap (λ (l : List ℕ). (seal_of at (spelled added) ++ spelled added) ++ l) (zeros_then n_zeros)
          ∙ sym (append_assoc (seal_of at (spelled added) ++ spelled added) (0 ∷ replicate {A = ℕ} n_zeros 0) closed_gate);
    }

-- ---- the repair of a file's end

module _ (front : List ℕ) (batches : List (List (List ℕ))) (end : ℕ) (file : List ℕ) (has : HasBatches front batches end file) where
  pub cut_done : take end file ≡ front ++ has.frames
  cut_done = ap (λ (l : List ℕ). take end l) has.parts ∙ take_at (front ++ has.frames) has.rest end (sym has.ends)

  module _ (shortened : List ℕ) (is : shortened ≡ front ++ has.frames) where
    pub written_end : (sector c : List ℕ) → length sector ≡ 4096 → c ≡ is_written end sector shortened → c ≡ front ++ has.frames ++ sector
    written_end sector c size written =
        written
        ∙ ap (λ (l : List ℕ). l ++ sector ++ drop (end + length sector) shortened) (ap (λ (l : List ℕ). take end l) is ∙ take_all end (front ++ has.frames) (omega (arith, has.ends)))
        ∙ ap (λ (l : List ℕ). (front ++ has.frames) ++ sector ++ l) (drop_all (end + length sector) shortened (omega (arith, has.ends, ap length is)))
        ∙ append-nil ((front ++ has.frames) ++ sector)

-- ---- a batch after a gate

-- a file stands for the batches from before, with the new one or without
abbrev pub Around : List ℕ → List (List (List ℕ)) → List (List ℕ) → List ℕ → Type 0
Around front before added c = StandsFor front before c ⊎ StandsFor front (before ++ added ∷ []) c

module _ (front frames : List ℕ) (before : List (List (List ℕ))) (are : AreFrames (length front) before frames) (gate : ℕ) (ends : gate ≡ length (front ++ frames)) where
  -- the batches from before, and a closed gate
  pub without : (rest c : List ℕ) → c ≡ front ++ frames ++ (closed_gate ++ rest) → StandsFor front before c
  without rest c parts = (
    gate,
    record {
      frames = frames;
      are = are;
      rest = closed_gate ++ rest;
      parts = parts;
      last = shut rest;
      ends = ends;
    },
  )

  module _ (added : List (List ℕ)) (new : AreSized added) (bytes : List ℕ) (payload : IsPayload gate added bytes) where
    pub frame_of : List ℕ → List ℕ
    frame_of sector = sector ++ (seal_of gate (spelled added) ++ spelled added ++ 0 ∷ payload.padding)

    pub length-bytes : length bytes ≡ payload_length (length (seal_of gate (spelled added) ++ spelled added)) + 4096
    length-bytes = omega (arith, ap length payload.parts, length-append (seal_of gate (spelled added) ++ spelled added ++ 0 ∷ payload.padding) closed_gate, payload.size, length-closed)

    -- after an open gate there is one more
    pub opened : (sector : List ℕ) → IsOpenGate sector → AreFrames (length front) (before ++ added ∷ []) (frames ++ frame_of sector)
    unfolding frame_of
    opened sector is = one_more_frame (length front) gate before added frames (sector ++ (seal_of gate (spelled added) ++ spelled added ++ 0 ∷ payload.padding)) are (omega (arith, ends, length-append front frames)) (record {
      sized = new;
      sector = sector;
      is_open = is;
      seal = seal_of gate (spelled added);
      sealed = inl refl;
      padding = payload.padding;
      size = payload.size;
      parts = refl;
    })

    pub opened_parts : (sector past c : List ℕ) → c ≡ front ++ frames ++ (sector ++ (bytes ++ past)) → c ≡ front ++ (frames ++ frame_of sector) ++ (closed_gate ++ past)
    unfolding frame_of
    opened_parts sector past c parts =
        let told = seal_of gate (spelled added) ++ spelled added ++ 0 ∷ payload.padding in
        parts
        ∙ ap (λ (l : List ℕ). front ++ frames ++ (sector ++ (l ++ past))) payload.parts
        ∙ ap (λ (l : List ℕ). front ++ frames ++ (sector ++ l)) (append_assoc told closed_gate past)
        ∙ ap (λ (l : List ℕ). front ++ frames ++ l) (sym (append_assoc sector told (closed_gate ++ past)))
        ∙ sym (append_assoc (front ++ frames) (frame_of sector) (closed_gate ++ past))
        ∙ ap (λ (l : List ℕ). l ++ (closed_gate ++ past)) (append_assoc front frames (frame_of sector))

    pub opened_end : (sector : List ℕ) → IsOpenGate sector → gate + length bytes ≡ length (front ++ (frames ++ frame_of sector))
    unfolding frame_of
    opened_end sector is =
        omega (arith, ends, payload.size, length-bytes, is.size, length-append sector (seal_of gate (spelled added) ++ spelled added ++ 0 ∷ payload.padding), length-append (front ++ frames) (frame_of sector), ap length (append_assoc front frames (frame_of sector)))

    -- and it counts, whatever stands after the closed gate after it
    counts : (sector past c : List ℕ) → IsOpenGate sector → c ≡ front ++ frames ++ (sector ++ (bytes ++ past)) → StandsFor front (before ++ added ∷ []) c
    counts sector past c is parts = (
      gate + length bytes,
      record {
        frames = frames ++ frame_of sector;
        are = opened sector is;
        rest = closed_gate ++ past;
        parts = opened_parts sector past c parts;
        last = shut past;
        ends = opened_end sector is;
      },
    )

    -- whatever the gate's sector is, the batch is there or not
    pub by_gate : (sector past c : List ℕ) → length sector ≡ 4096 → c ≡ front ++ frames ++ (sector ++ (bytes ++ past)) → Around front before added c
    by_gate sector past c size parts =
        elim (same_or_not sector closed_gate) [
          | inl is_closed ↦ inl (without (bytes ++ past) c (parts ∙ ap (λ (l : List ℕ). front ++ frames ++ (l ++ (bytes ++ past))) is_closed))
          | inr written ↦ inr (counts sector past c (record { size = size; written = written }) parts)
        ]
