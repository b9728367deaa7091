-- The block runs of a run (profile): its program on one source block after another.
use Rattle.std.specs.Prelude.{ℕ, Bool, false, ◌≡◌, ◌+◌, ◌==◌, List, [], ◌∷◌, length, get_or, map, replicate, take, Option, None, if◌then◌else◌}
use Rattle.std.specs.List.{last_or, sum_by}
use Rattle.std.specs.Option.{option_map_or}
use Rattle.common_definitions.specs.Bytes.{AreBytes}
use Rattle.instruction_set.specs.Program.{instruction_count}
use Rattle.instruction_set.specs.declared.instruction.Instruction.{Instruction}
use Rattle.program_interface.specs.Context.{context_bytes}
use Rattle.program_interface.specs.RunSizes.{Sizes}
use Rattle.program_interface.specs.declared.area.TheConstants.{SCRATCH_BYTES}
use Rattle.program_meaning.specs.BlockRun.{BlockRun, block_run_of}
use Rattle.program_meaning.specs.State.{State, at_start}
use Rattle.program_meaning.specs.declared.end.End.{End}
use Rattle.program_meaning.specs.declared.end.End.TheVariants as end

-- what a run is about: the program and the sizes that it was accepted for, the argument, the LBA of
-- the first source block, and how many there are
pub record Task : Type 0 where
  pub program : List (Option Instruction)
  pub sizes : Sizes
  pub argument : ℕ
  pub lba : ℕ
  pub count : ℕ

-- what a block run is told of its block, before which the run had so many
abbrev pub context : Task → ℕ → List ℕ
context task index =
    context_bytes (record { lba = task.lba + index; index = index; count = task.count; block = task.sizes.block; argument = task.argument })

-- a program on one block, with as much fuel as it has instructions
abbrev pub block_run_over : List (Option Instruction) → ℕ → List ℕ → List ℕ → List ℕ → BlockRun
block_run_over program limit bytes context scratch = block_run_of program limit (instruction_count program) 0 (at_start bytes context scratch)

-- the run's program on one block
abbrev pub block_run : Task → ℕ → List ℕ → List ℕ → BlockRun
block_run task index scratch bytes = block_run_over task.program task.sizes.limit bytes (context task index) scratch

-- the scratch bytes that a block run leaves
abbrev pub scratch_after : BlockRun → List ℕ
scratch_after run = run.state.memory.scratch

-- the program on each of these blocks, with the scratch bytes that the block run before left
abbrev pub block_runs_from : Task → ℕ → List ℕ → List (List ℕ) → List BlockRun
block_runs_from task index scratch [] = []
block_runs_from task index scratch (bytes ∷ blocks) =
    let run = block_run task index scratch bytes in run ∷ block_runs_from task (index + 1) (scratch_after run) blocks

-- does the run go on after this block run? Not where R0 isn't 0, nor where the program couldn't go on
abbrev pub goes_on : End → Bool
goes_on (end.Exit r0) = r0 == 0
goes_on _ = false

-- these block runs up to the first after which the run doesn't go on, that one counted, or all of them
abbrev pub until_ended : List BlockRun → List BlockRun
until_ended [] = []
until_ended (run ∷ block_runs) = run ∷ (if goes_on run.end then until_ended block_runs else [])

-- as many bytes as a scratch area has
pub record AreScratch (scratch : List ℕ) : Type 0 where
  pub long : length scratch ≡ SCRATCH_BYTES
  pub are : AreBytes scratch

-- the scratch bytes that a run begins with
abbrev pub no_scratch : List ℕ
no_scratch = replicate SCRATCH_BYTES 0

-- the block runs that a run comes to, over its source blocks
abbrev pub block_runs_of : Task → List (List ℕ) → List BlockRun
block_runs_of task blocks = until_ended (block_runs_from task 0 no_scratch blocks)

-- ---- what block runs leave

-- their groups, in order
abbrev pub groups_of : List BlockRun → List (List ℕ)
groups_of block_runs = map (λ run. run.state.group) block_runs

-- the number of their frames
abbrev pub frames_of : List BlockRun → ℕ
frames_of block_runs = sum_by (λ run. run.state.frames) block_runs

-- the scratch bytes that the last of them leaves
abbrev pub last_scratch : List BlockRun → List ℕ
last_scratch block_runs = option_map_or scratch_after (last_or None block_runs) no_scratch

-- the state in which the block run of this index starts: over its block, with the scratch bytes that the block run before it left
abbrev pub start_of : Task → List (List ℕ) → ℕ → State
start_of task blocks index =
    at_start (get_or blocks index []) (context task index) (last_scratch (take index (block_runs_of task blocks)))
