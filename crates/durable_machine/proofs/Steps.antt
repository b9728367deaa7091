-- The steps of adding a batch and of repairing a file's end, each over the states of the file.
use Rattle.std.proofs.Common.{◌≡◌, ℕ, List, [], ◌++◌, length, take, sym, ◌∙◌, ap, arith, length-append}
use Rattle.std.proofs.lemmas.List.{append-nil}
use Rattle.stored_file.specs.File.{FileState, IsAsBefore, IsOnDisk, IsWhole, is_written}
use Rattle.durable_machine.specs.Journal.{closed_gate, HasBatches, StandsFor, IsAt}
use Rattle.durable_machine.proofs.Frames.{frames_whole}
use Rattle.durable_machine.proofs.Crash.{without, cut_done, written_end}
use Rattle.durable_machine.proofs.Sealing.{length-closed}

module _ (front : List ℕ) (before : List (List (List ℕ))) (gate : ℕ) (old : FileState) (rests : IsAt front before gate old) where
  -- a gate stands at the start of a sector
  pub gate_whole : IsWhole gate
  gate_whole = omega (arith, rests.ends, rests.whole, length-append front rests.frames, frames_whole (length front) before rests.frames rests.are)

  -- a journal at rest stands for its batches
  pub at_rest : StandsFor front before old.seen
  at_rest = without front rests.frames before rests.are gate rests.ends rests.room old.seen rests.parts

-- the end of a file is repaired
pub is_repaired : (front : List ℕ) (batches : List (List (List ℕ))) (end : ℕ) (old : List ℕ) (synced last : FileState) (has : HasBatches front batches end old) (sector : List ℕ) → synced.seen ≡ take end old
    → IsWhole (length front) → sector ≡ closed_gate → last.seen ≡ is_written end sector synced.seen → IsOnDisk last → IsAt front batches end last
is_repaired front batches end old synced last has sector shortened whole is_closed written durable = record {
  whole = whole;
  frames = has.frames;
  are = has.are;
  room = [];
  parts =
      written_end front batches end old has synced.seen (shortened ∙ cut_done front batches end old has) sector last.seen (ap length is_closed ∙ length-closed) written
      ∙ ap (λ (l : List ℕ). front ++ has.frames ++ l) (is_closed ∙ sym (append-nil closed_gate));
  ends = has.ends;
  durable = durable;
}

-- a journal at rest, of whose file nothing has changed
pub rests_as_before : (front : List ℕ) (batches : List (List (List ℕ))) (gate : ℕ) (old new : FileState) → IsAt front batches gate old → IsAsBefore old new → IsAt front batches gate new
rests_as_before front batches gate old new rests same = record {
  whole = rests.whole;
  frames = rests.frames;
  are = rests.are;
  room = rests.room;
  parts = same.seen ∙ rests.parts;
  ends = rests.ends;
  durable = record {
    left = λ c left. rests.durable.left c (same.left c left) ∙ sym same.seen;
    synced = λ c is. rests.durable.synced c (same.synced c is) ∙ sym same.seen;
  };
}
