-- What the turns of runs do, by computing the definitions.
use Rattle.std.proofs.Common.{◌≡◌, ℕ, List, [], ◌∷◌, ◌++◌, map, replicate, Option, Some, None, refl}
use Rattle.std.specs.List.{concat}
use Rattle.instruction_set.specs.declared.instruction.Instruction.{Instruction}
use Rattle.emit_append.specs.Need.{need}
use Rattle.program_meaning.specs.BlockRun.{BlockRun, block_run_of}
use Rattle.device_meaning.specs.BlockRuns.{Task, block_runs_of, no_scratch}
use Rattle.device_meaning.specs.Outcome.{Turn, outcome, success, trapped}
use Rattle.pushdown.specs.Pushdown.{no_turn}
use Rattle.pushdown.proofs.Examples.{block_of, frame, loops, passes, sevens, sums, tells, traps, twice}

-- a program over so many blocks from LBA 0 on
abbrev task_over : List (Option Instruction) → ℕ → ℕ → Task
task_over program limit count = record { program = program; sizes = record { block = 512; limit = limit }; argument = 0; lba = 0; count = count }

-- the last turn of a run that succeeds
abbrev ends : List (List ℕ) → ℕ → ℕ → List ℕ → Turn
ends blocks frames count result = record { blocks = blocks; ending = Some (success frames count result) }

-- the steps that a run's block runs take
abbrev steps_of : Task → List (List ℕ) → List ℕ
steps_of task blocks = map (λ (run : BlockRun). run.steps) (block_runs_of task blocks)

-- a program that does nothing: three turns of two steps, of which the last ends the run, whatever the blocks are
module _ (x y z : List ℕ) where
  abbrev idle : Task
  idle = task_over passes 0 3

  pub passes_turns : outcome idle (x ∷ y ∷ z ∷ []) ≡ no_turn ∷ no_turn ∷ ends [] 0 0 no_scratch ∷ []
  unfolding block_run_of
  passes_turns = refl

  pub passes_steps : steps_of idle (x ∷ y ∷ z ∷ []) ≡ 2 ∷ 2 ∷ 2 ∷ []
  unfolding block_run_of
  passes_steps = refl

-- 52 blocks, of each a frame: 51 fill a block but for two bytes, so that nothing is appended before the last
-- turn, which appends two
module _ where
  abbrev matching : Task
  matching = task_over sevens 10 52

  pub sevens_need : need 52 matching.sizes ≡ 2
  sevens_need = refl

  pub sevens_turns : outcome matching (replicate 52 (block_of 7))
      ≡ replicate 51 no_turn ++ ends ((concat (replicate 51 frame) ++ 0 ∷ 0 ∷ []) ∷ (frame ++ replicate 502 0) ∷ []) 52 2 no_scratch ∷ []
  unfolding block_run_of
  sevens_turns = refl

  -- a block that begins with 7 takes seven steps, and another four
  pub sevens_steps : steps_of (task_over sevens 10 2) (block_of 7 ∷ block_of 8 ∷ []) ≡ 7 ∷ 4 ∷ []
  unfolding block_run_of
  sevens_steps = refl

-- ten blocks, of which three are read: the sum of their first bytes is the result
pub sums_turns : outcome (task_over sums 0 10) (map block_of (1 ∷ 2 ∷ 3 ∷ 4 ∷ 5 ∷ 6 ∷ 7 ∷ 8 ∷ 9 ∷ 10 ∷ []))
    ≡ no_turn ∷ no_turn ∷ ends [] 0 0 (6 ∷ replicate 1023 0) ∷ []
unfolding block_run_of
sums_turns = refl

-- frames are told, not groups: two of each block
pub twice_turns : outcome (task_over twice 6 2) (block_of 4 ∷ block_of 5 ∷ [])
    ≡ no_turn ∷ ends ((1 ∷ 0 ∷ 4 ∷ 1 ∷ 0 ∷ 4 ∷ 1 ∷ 0 ∷ 5 ∷ 1 ∷ 0 ∷ 5 ∷ replicate 500 0) ∷ []) 4 1 no_scratch ∷ []
unfolding block_run_of
twice_turns = refl

-- each block run is told the LBA of its block, its index, how many blocks there are, a block's size and
-- the argument
module _ where
  abbrev telling : Task
  telling = record { program = tells; sizes = record { block = 512; limit = 34 }; argument = 0x01020304; lba = 258; count = 2 }

  abbrev told : ℕ → ℕ → List ℕ
  told lba index =
      32 ∷ 0
      ∷ lba ∷ 1 ∷ replicate 6 0
      ++ index ∷ 0 ∷ 0 ∷ 0
      ∷ 2 ∷ 0 ∷ 0 ∷ 0
      ∷ 0 ∷ 2 ∷ 0 ∷ 0
      ∷ 4 ∷ 3 ∷ 2 ∷ 1
      ∷ replicate 8 0

  pub tells_turns : outcome telling (block_of 0 ∷ block_of 0 ∷ [])
      ≡ no_turn ∷ ends ((told 2 0 ++ told 3 1 ++ replicate 444 0) ∷ []) 2 1 no_scratch ∷ []
  unfolding block_run_of
  tells_turns = refl

-- a run whose program can't go on: the block that was filled stands, the pending one is dropped
module _ where
  pub traps_turns : outcome (task_over traps 512 3) (block_of 1 ∷ block_of 1 ∷ block_of 9 ∷ [])
      ≡ no_turn ∷ record { blocks = (0xfe ∷ 0x01 ∷ 1 ∷ replicate 509 0) ∷ []; ending = None } ∷ trapped 7 4 ∷ []
  unfolding block_run_of
  traps_turns = refl

  pub loops_turns : outcome (task_over loops 0 1) (block_of 0 ∷ []) ≡ trapped 0 9 ∷ []
  unfolding block_run_of
  loops_turns = refl
