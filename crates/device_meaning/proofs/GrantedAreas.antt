-- The block runs of a run keep to the granted areas.
use Rattle.std.proofs.Common.{◌≡◌, ℕ, zero, suc, ◌+◌, ◌<◌, Bool, true, false, List, [], ◌∷◌, length, take, get_or, Option, Some, None, slice_get, refl, subst, arith}
use Rattle.std.specs.Prelude.{if◌then◌else◌}
use Rattle.std.specs.List.{last_or}
use Rattle.std.specs.Option.{option_map_or}
use Rattle.instruction_set.specs.Program.{instruction_count}
use Rattle.program_meaning.specs.BlockRun.{BlockRun, block_run_of}
use Rattle.program_meaning.specs.Granted.{KeepsToGrantedAreas}
use Rattle.program_meaning.specs.State.{State, at_start}
use Rattle.program_meaning.proofs.Proved.{exits_keep_to_granted_areas}
use Rattle.device_meaning.specs.BlockRuns.{AreScratch, Task, block_run, block_runs_from, block_runs_of, context, goes_on, no_scratch, scratch_after, start_of, until_ended}
use Rattle.device_meaning.proofs.BlockRuns.{IsReady, no_scratch_is, one_done, starts}
use Rattle.device_meaning.proofs.Bytes.{AreBlocks, IsBlock}

-- a block run is the one from this start, and keeps to the granted areas
pub record IsGrantedRun (task : Task) (run : Option BlockRun) (start : State) : Type 0 where
  pub from_start : run ≡ Some (block_run_of task.program task.sizes.limit (instruction_count task.program) 0 start)
  pub keeps : KeepsToGrantedAreas task.program task.sizes.limit start

module _ (task : Task) (ready : IsReady task) where
  -- the scratch bytes behind block runs, before which there was perhaps one
  abbrev left : Option BlockRun → List BlockRun → List ℕ
  left before block_runs = option_map_or scratch_after (last_or before block_runs) no_scratch

  abbrev Granted : Option BlockRun → List (List ℕ) → List BlockRun → ℕ → ℕ → Type 0
  Granted before blocks block_runs index k =
      IsGrantedRun task (slice_get block_runs k) (at_start (get_or blocks k []) (context task index) (left before (take k block_runs)))

  one_granted : (index : ℕ) (scratch bytes : List ℕ) → AreScratch scratch → IsBlock task.sizes.block bytes
      → IsGrantedRun task (Some (block_run task index scratch bytes)) (at_start bytes (context task index) scratch)
  one_granted index scratch bytes is block = record {
    from_start = refl;
    keeps = exits_keep_to_granted_areas task.program task.sizes.limit (instruction_count task.program) (at_start bytes (context task index) scratch)
        (starts task ready index scratch bytes is block) (one_done task ready index scratch bytes is block).exits.exit;
  }

  later : (before : Option BlockRun) (run : BlockRun) (bytes : List ℕ) (blocks : List (List ℕ)) (more : List BlockRun) (at k : ℕ) (on : Bool)
      → (k < length more → Granted (Some run) blocks more at k)
      → suc k < length (run ∷ (if on then more else [])) → Granted before (bytes ∷ blocks) (run ∷ (if on then more else [])) at (suc k)
  later before run bytes blocks more at k true rest below = rest (omega (arith, below))
  later before run bytes blocks more at k false rest below = absurd (omega (arith, below))

  each_granted : (blocks : List (List ℕ)) (before : Option BlockRun) (index k at : ℕ) → AreScratch (left before []) → AreBlocks task.sizes.block blocks
      → index + k ≡ at → k < length (until_ended (block_runs_from task index (left before []) blocks))
      → Granted before blocks (until_ended (block_runs_from task index (left before []) blocks)) at k
  each_granted [] before index k at is whole same below = absurd (omega (arith, below))
  each_granted (bytes ∷ blocks) before index zero at is whole same below =
      let here : index ≡ at = omega (arith, same) in
      subst
      (λ (place : ℕ). IsGrantedRun task (Some (block_run task index (left before []) bytes)) (at_start bytes (context task place) (left before []))) here
      (one_granted index (left before []) bytes is whole.0)
  each_granted (bytes ∷ blocks) before index (suc k) at is whole same below =
      let run = block_run task index (left before []) bytes in
      later before run bytes blocks (until_ended (block_runs_from task (index + 1) (scratch_after run) blocks)) at k (goes_on run.end)
      (each_granted blocks (Some run) (index + 1) k at (one_done task ready index (left before []) bytes is whole.0).scratch whole.1 (omega (arith, same)))
      below

  -- each block run is the one from its start, and keeps to the granted areas
  pub block_runs_granted : (blocks : List (List ℕ)) → AreBlocks task.sizes.block blocks → (index : ℕ) → index < length (block_runs_of task blocks)
      → IsGrantedRun task (slice_get (block_runs_of task blocks) index) (start_of task blocks index)
  block_runs_granted blocks whole index below = each_granted blocks None 0 index index no_scratch_is whole (omega arith) below
