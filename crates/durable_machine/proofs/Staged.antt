-- A batch is staged and added, over the states of the file.
use Rattle.std.proofs.Common.{◌≡◌, ◌≤◌, ◌+◌, ℕ, List, [], ◌∷◌, ◌++◌, length, take, drop, sym, ◌∙◌, subst, arith, length-append, length-take, length-drop}
use Rattle.stored_file.specs.File.{FileState, IsOnDisk, IsWhole, LeavesOnly, is_written, Torn}
use Rattle.stored_file.proofs.Moments.{started, weaken}
use Rattle.durable_machine.specs.Events.{AreSized}
use Rattle.durable_machine.specs.Journal.{closed_gate, IsOpenGate, AreFrames, StandsFor, IsAt}
use Rattle.durable_machine.specs.Staging.{IsPayload, IsStaged}
use Rattle.durable_machine.proofs.Frames.{frames_whole}
use Rattle.durable_machine.proofs.Steps.{at_rest}
use Rattle.durable_machine.proofs.Crash.{Around, without, by_gate, opened, opened_parts, opened_end, frame_of}
use Rattle.durable_machine.proofs.Sealing.{length-closed}
use Rattle.durable_machine.proofs.Rounds.{length_is, put, over, torn_after, torn_gate}

module _ (front : List ℕ) (before : List (List (List ℕ))) (gate : ℕ) (old : FileState) (rests : IsAt front before gate old) where
  pub room_after : gate + 4096 ≤ length old.seen
  room_after = omega (arith, length_is (front ++ rests.frames) closed_gate gate rests.ends length-closed old.seen rests.room rests.parts)

  pub stage_begun : LeavesOnly old old (StandsFor front before)
  stage_begun = started old (StandsFor front before) (λ c left. subst (StandsFor front before) (sym (rests.durable.left c left)) (at_rest front before gate old rests))

  pub stage_written : (m : ℕ) (new : FileState) → LeavesOnly old new (Torn (gate + 4096) m old.seen) → LeavesOnly old new (StandsFor front before)
  stage_written m new torn =
      weaken old new (Torn (gate + 4096) m old.seen) (StandsFor front before) torn
      (λ c one. without front rests.frames before rests.are gate rests.ends (drop (gate + 4096) c) c
      (torn_after (front ++ rests.frames) closed_gate gate rests.ends length-closed old.seen rests.room rests.parts m c one))

  pub is_staged : (added : List (List ℕ)) (bytes : List ℕ) (next : ℕ) (new : FileState) → AreSized added → IsPayload gate added bytes
      → next ≡ gate + length bytes → new.seen ≡ is_written (gate + 4096) bytes old.seen → IsOnDisk new
      → IsStaged front before added gate next new
  is_staged added bytes next new sized payload goes written durable = record {
    whole = rests.whole;
    frames = rests.frames;
    are = rests.are;
    sized = sized;
    bytes = bytes;
    payload = payload;
    room = drop (gate + 4096 + length bytes) old.seen;
    parts = written ∙ put (front ++ rests.frames) closed_gate gate rests.ends length-closed old.seen rests.room rests.parts bytes;
    ends = rests.ends;
    goes_on = goes;
    durable = durable;
  }

module _ (front : List ℕ) (before : List (List (List ℕ))) (batch : List (List ℕ)) (gate next : ℕ) (old : FileState) (rests : IsStaged front before batch gate next old) where
  -- its gate stands at the start of a sector, within the file
  pub staged_gate_whole : IsWhole gate
  staged_gate_whole = omega (arith, rests.ends, rests.whole, length-append front rests.frames, frames_whole (length front) before rests.frames rests.are)

  pub staged_gate_there : gate + 4096 ≤ length old.seen
  staged_gate_there =
      omega (arith, length_is (front ++ rests.frames) closed_gate gate rests.ends length-closed old.seen (rests.bytes ++ rests.room) rests.parts)

  gate_torn : (c : List ℕ) → Torn gate 4096 old.seen c → Around front before batch c
  gate_torn c torn =
      by_gate front rests.frames before rests.are gate rests.ends batch rests.sized rests.bytes rests.payload (take 4096 (drop gate c)) rests.room c
      (omega (arith, length-take 4096 (drop gate c), length-drop gate c, torn.no_shorter, staged_gate_there))
      (torn_gate (front ++ rests.frames) closed_gate gate rests.ends length-closed old.seen (rests.bytes ++ rests.room) rests.parts c torn)

  pub gate_written : (n : ℕ) (new : FileState) → n ≡ 4096 → LeavesOnly old new (Torn gate n old.seen) → LeavesOnly old new (Around front before batch)
  gate_written n new same torn =
      weaken old new (Torn gate 4096 old.seen) (Around front before batch) (subst (λ (k : ℕ). LeavesOnly old new (Torn gate k old.seen)) same torn) gate_torn

  module _ (gates : List ℕ) (is_open : IsOpenGate gates) where
    frames_now : List ℕ
    frames_now = rests.frames ++ frame_of front rests.frames before rests.are gate rests.ends batch rests.sized rests.bytes rests.payload gates

    are_now : AreFrames (length front) (before ++ batch ∷ []) frames_now
    unfolding frames_now
    are_now = opened front rests.frames before rests.are gate rests.ends batch rests.sized rests.bytes rests.payload gates is_open

    parts_now : is_written gate gates old.seen ≡ front ++ frames_now ++ (closed_gate ++ rests.room)
    unfolding frames_now
    parts_now =
        opened_parts front rests.frames before rests.are gate rests.ends batch rests.sized rests.bytes rests.payload gates rests.room (is_written gate gates old.seen)
        (over (front ++ rests.frames) closed_gate gate rests.ends length-closed old.seen (rests.bytes ++ rests.room) rests.parts gates is_open.size)

    ends_now : next ≡ length (front ++ frames_now)
    unfolding frames_now
    ends_now = rests.goes_on ∙ opened_end front rests.frames before rests.are gate rests.ends batch rests.sized rests.bytes rests.payload gates is_open

    -- the staged batch is added
    pub is_settled : (new : FileState) → new.seen ≡ is_written gate gates old.seen → IsOnDisk new → IsAt front (before ++ batch ∷ []) next new
    is_settled new written durable = record {
      whole = rests.whole;
      frames = frames_now;
      are = are_now;
      room = rests.room;
      parts = written ∙ parts_now;
      ends = ends_now;
      durable = durable;
    }
