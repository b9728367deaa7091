-- Block runs of a program that never traps.
use Rattle.std.proofs.Common.{◌≡◌, ℕ, ◌+◌, ◌*◌, ◌^◌, ◌<◌, ◌≤◌, List, [], ◌∷◌, ◌++◌, length, replicate, refl, ap, arith, lit<, length-append}
use Rattle.std.proofs.lemmas.Bool.{cond_both}
use Rattle.std.proofs.lemmas.List.{length-replicate}
use Rattle.std.proofs.Math.Nat.{suc-mul}
use Rattle.std.specs.List.{AllByRecursion, flat_map}
use Rattle.std.proofs.lemmas.List.Sums.{sum_by-cons}
use Rattle.byteorder.specs.Endian.{little_bytes}
use Rattle.instruction_set.specs.Program.{instruction_count}
use Rattle.program_interface.specs.Frame.{frame, frames}
use Rattle.program_interface.specs.RunSizes.{AreSizes}
use Rattle.program_interface.specs.declared.area.Area.TheVariants.{Scratch}
use Rattle.program_meaning.specs.Laws.{IsInRun}
use Rattle.program_meaning.specs.BlockRun.{BlockRun}
use Rattle.program_meaning.specs.State.{IsState, at_start}
use Rattle.program_meaning.specs.TrapFree.{Exits, NeverTraps}
use Rattle.program_meaning.proofs.Proved.{ends_in_run, start_is_in_run, start_is_state}
use Rattle.common_definitions.proofs.Proved.{all_append, all_same}
use Rattle.emit_append.proofs.Proved.{AllBytes, FitsByte, by_place}
use Rattle.device_meaning.specs.BlockRuns.{AreScratch, Task, block_run, block_runs_from, block_runs_of, context, frames_of, goes_on, no_scratch, scratch_after, until_ended}
use Rattle.device_meaning.proofs.Bytes.{AreBlocks, IsBlock, little_are}

-- ---- the start of a block run

words_are : (words : List ℕ) → AllBytes (flat_map (little_bytes 4) words)
words_are [] = tt
words_are (x ∷ xs) = all_append FitsByte (little_bytes 4 x) (flat_map (little_bytes 4) xs) (little_are 4 x) (words_are xs)

context_are : (task : Task) (index : ℕ) → AllBytes (context task index)
context_are task index =
    let words = flat_map (little_bytes 4) (index ∷ task.count ∷ task.sizes.block ∷ task.argument ∷ []) in
    let zeros : List ℕ = replicate 8 0 in
    all_append FitsByte (little_bytes 8 (task.lba + index)) (words ++ zeros) (little_are 8 (task.lba + index))
    (all_append FitsByte words zeros (words_are (index ∷ task.count ∷ task.sizes.block ∷ task.argument ∷ [])) (all_same FitsByte 8 0 (lit< tt)))

pub no_scratch_is : AreScratch no_scratch
no_scratch_is = record {
  long = length-replicate {A = ℕ} 1024 0;
  are = by_place no_scratch (all_same FitsByte 1024 0 (lit< tt));
}

-- a program that never traps over blocks of this size
pub record IsReady (task : Task) : Type 0 where
  pub never : NeverTraps task.program task.sizes.limit task.sizes.block
  pub sizes : AreSizes task.sizes
  pub small : task.sizes.block < 2 ^ 32

-- a block run that ends by EXIT, with a group of whole frames, and scratch bytes for the next
pub record IsDone (task : Task) (run : BlockRun) : Type 0 where
  pub exits : Exits (instruction_count task.program) task.sizes.limit run
  pub in_run : IsInRun task.sizes.limit run.state
  pub scratch : AreScratch (scratch_after run)

module _ (task : Task) (ready : IsReady task) where
  pub starts : (index : ℕ) (scratch bytes : List ℕ) → AreScratch scratch → IsBlock task.sizes.block bytes → IsState (at_start bytes (context task index) scratch)
  starts index scratch bytes is block =
      start_is_state bytes (context task index) scratch (rw block.whole ready.small) refl is.long
      block.are (by_place (context task index) (context_are task index)) is.are

  pub one_done : (index : ℕ) (scratch bytes : List ℕ) → AreScratch scratch → IsBlock task.sizes.block bytes → IsDone task (block_run task index scratch bytes)
  one_done index scratch bytes is block =
      let limit = task.sizes.limit in
      let told = context task index in
      let start = starts index scratch bytes is block in
      let last = ends_in_run task.program limit (instruction_count task.program) 0 (at_start bytes told scratch) (start_is_in_run limit bytes told scratch start) in
      record {
        exits = ready.never bytes told scratch block.whole start;
        in_run = last;
        scratch = record { long = last.is.memory.lengths Scratch; are = last.is.memory.bytes Scratch };
      }

  all_done : (blocks : List (List ℕ)) (index : ℕ) (scratch : List ℕ) → AreScratch scratch → AreBlocks task.sizes.block blocks
      → AllByRecursion (IsDone task) (block_runs_from task index scratch blocks)
  all_done [] index scratch is whole = tt
  all_done (bytes ∷ blocks) index scratch is whole =
      let done = one_done index scratch bytes is whole.0 in
      (done, all_done blocks (index + 1) (scratch_after (block_run task index scratch bytes)) done.scratch whole.1)

  until : (block_runs : List BlockRun) → AllByRecursion (IsDone task) block_runs → AllByRecursion (IsDone task) (until_ended block_runs)
  until [] h = tt
  until (run ∷ block_runs) h = (h.0, cond_both (goes_on run.end) (until_ended block_runs) [] (AllByRecursion (IsDone task)) (λ _. until block_runs h.1) (λ _. tt))

  -- from a block of a run on
  pub later_runs_done : (blocks : List (List ℕ)) (index : ℕ) (scratch : List ℕ) → AreScratch scratch → AreBlocks task.sizes.block blocks
      → AllByRecursion (IsDone task) (until_ended (block_runs_from task index scratch blocks))
  later_runs_done blocks index scratch is whole = until (block_runs_from task index scratch blocks) (all_done blocks index scratch is whole)

  pub block_runs_done : (blocks : List (List ℕ)) → AreBlocks task.sizes.block blocks → AllByRecursion (IsDone task) (block_runs_of task blocks)
  block_runs_done blocks whole = later_runs_done blocks 0 no_scratch no_scratch_is whole

-- ---- how many block runs

fewer : (block_runs : List BlockRun) → length (until_ended block_runs) ≤ length block_runs
fewer [] = omega arith
fewer (run ∷ block_runs) =
    let tail = cond_both (goes_on run.end) (until_ended block_runs) [] (λ kept. length kept ≤ length block_runs) (λ _. fewer block_runs) (λ _. omega arith) in
    omega (arith, tail)

at_most_one_each : (task : Task) (index : ℕ) (scratch : List ℕ) (blocks : List (List ℕ)) → length (block_runs_from task index scratch blocks) ≤ length blocks
at_most_one_each task index scratch [] = omega arith
at_most_one_each task index scratch (b ∷ bs) =
    let less = at_most_one_each task (index + 1) (scratch_after (block_run task index scratch b)) bs in
    omega (arith, less)

-- no more than blocks
pub few_block_runs : (task : Task) (index : ℕ) (scratch : List ℕ) (blocks : List (List ℕ))
    → length (until_ended (block_runs_from task index scratch blocks)) ≤ length blocks
few_block_runs task index scratch blocks =
    let less = fewer (block_runs_from task index scratch blocks) in
    let most = at_most_one_each task index scratch blocks in
    omega (arith, less, most)

-- and some where there are blocks
pub some_later_runs : (task : Task) (index : ℕ) (scratch : List ℕ) (blocks : List (List ℕ)) → 1 ≤ length blocks
    → 1 ≤ length (until_ended (block_runs_from task index scratch blocks))
some_later_runs task index scratch [] some = absurd (omega (arith, some))
some_later_runs task index scratch (bytes ∷ blocks) some = omega arith

pub some_block_runs : (task : Task) (blocks : List (List ℕ)) → 1 ≤ length blocks → 1 ≤ length (block_runs_of task blocks)
some_block_runs task blocks some = some_later_runs task 0 no_scratch blocks some

-- ---- how many frames

-- each frame has two bytes of length, and at least one more
long_frames : (records : List (List ℕ)) → AllByRecursion (λ bytes. 0 < length bytes) records → 3 * length records ≤ length (frames records)
long_frames [] some = omega arith
long_frames (bytes ∷ records) some =
    let rest = long_frames records some.1 in
    let joined = length-append (frame bytes) (frames records) in
    let front = length-append (little_bytes 2 (length bytes)) bytes in
    omega (arith, rest, joined, front, some.0)

frames_fit : (task : Task) (run : BlockRun) → IsDone task run → 3 * run.state.frames ≤ task.sizes.limit
frames_fit task run done =
    let group = done.in_run.group in
    let long = long_frames group.records group.some in
    let same : length run.state.group ≡ length (frames group.records) = ap length group.whole in
    omega (arith, long, same, group.number, group.within)

-- block runs that are done have at most a frame for each three bytes that the limit allows them
pub few_frames : (task : Task) (block_runs : List BlockRun) → AllByRecursion (IsDone task) block_runs → 3 * frames_of block_runs ≤ length block_runs * task.sizes.limit
few_frames task [] done = omega arith
few_frames task (run ∷ block_runs) done =
    let first = frames_fit task run done.0 in
    let rest = few_frames task block_runs done.1 in
    let product = suc-mul (length block_runs) task.sizes.limit in
    omega (arith, first, rest, product, sum_by-cons (λ (r : BlockRun). r.state.frames) run block_runs)
