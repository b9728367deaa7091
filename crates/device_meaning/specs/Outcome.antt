-- The outcome of a run (profile): what each of its turns appends, and how it ends. It is fixed when the run is
-- admitted, by the program and the source blocks of then.
use Rattle.std.specs.Prelude.{ℕ, ◌≡◌, ◌+◌, List, [], ◌∷◌, ◌++◌, length, drop, flat_map, Option, Some, None, IsSomeAnd}
use Rattle.std.specs.List.{last_or}
use Rattle.std.specs.Option.{option_and_then}
use Rattle.zone_state.specs.declared.status.Status.{Status}
use Rattle.zone_state.specs.declared.status.TheConstants.Status.{SUCCESS, PROGRAM_TRAPPED}
use Rattle.program_meaning.specs.Cause.{cause_number}
use Rattle.program_meaning.specs.BlockRun.{BlockRun}
use Rattle.program_meaning.specs.declared.end.End.{End}
use Rattle.program_meaning.specs.declared.end.End.TheVariants as end
use Rattle.emit_append.specs.Packing.{packed, released}
use Rattle.device_meaning.specs.BlockRuns.{Task, block_runs_from, block_runs_of, frames_of, last_scratch, no_scratch, scratch_after, until_ended}

-- ---- turns

-- how a run ends: the completion's status and dwords, and the scratch bytes that are kept as its result
pub record Ending : Type 0 where
  pub status : Status
  pub dw0 : ℕ
  pub dw1 : ℕ
  pub result : Option (List ℕ)

-- how a run ends that succeeds: its frames and the blocks that it appended are told, and its scratch bytes kept
abbrev pub success : ℕ → ℕ → List ℕ → Ending
success frames appended scratch = record { status = SUCCESS; dw0 = frames; dw1 = appended; result = Some scratch }

-- what one turn does: the blocks that it appends, and how it ends the run, if it does
pub record Turn : Type 0 where
  pub blocks : List (List ℕ)
  pub ending : Option Ending

-- what was emitted: groups in order, the number of their frames, and how many blocks were appended
-- before the first of these groups
pub record Emitted : Type 0 where
  pub groups : List (List ℕ)
  pub frames : ℕ
  pub appended : ℕ

-- what a run has emitted before its first block run
abbrev pub nothing_emitted : Emitted
nothing_emitted = record { groups = []; frames = 0; appended = 0 }

-- what was emitted, with a block run's group behind it
abbrev pub with_group : Emitted → BlockRun → Emitted
with_group emitted run =
    record { groups = emitted.groups ++ run.state.group ∷ []; frames = emitted.frames + run.state.frames; appended = emitted.appended }

-- what comes to the first blocks, in blocks that begin with them
abbrev pub coming_to : List (List ℕ) → List (List ℕ) → List (List ℕ)
coming_to first blocks = drop (length first) blocks

-- a turn after which the run goes on appends what the packing of the groups up to its own has released, all its blocks but the
-- last, and that of the groups before had not
abbrev pub middle_turn : ℕ → Emitted → BlockRun → Turn
middle_turn block emitted run =
    record { blocks = coming_to (released block emitted.groups) (released block (with_group emitted run).groups); ending = None }

-- a run whose last block run ended by EXIT: all blocks are appended, and told with the frames
abbrev pub succeeded : ℕ → Emitted → Emitted → List ℕ → Turn
succeeded block before emitted scratch = record {
  blocks = coming_to (released block before.groups) (packed block emitted.groups);
  ending = Some (success emitted.frames (emitted.appended + length (packed block emitted.groups)) scratch);
}

-- a run whose program couldn't go on: nothing more is appended
abbrev pub trapped : ℕ → ℕ → Turn
trapped slot cause =
    record { blocks = []; ending = Some (record { status = PROGRAM_TRAPPED; dw0 = slot; dw1 = cause; result = None }) }

-- the last turn; 9 tells that a block run had no fuel left (profile)
abbrev pub last_turn_by : End → ℕ → Emitted → BlockRun → Turn
last_turn_by (end.Exit r0) block emitted run = succeeded block emitted (with_group emitted run) (scratch_after run)
last_turn_by (end.Trap slot cause) block emitted run = trapped slot (cause_number cause)
last_turn_by end.OutOfFuel block emitted run = trapped 0 9

-- the turn that ends a run
abbrev pub last_turn : ℕ → Emitted → BlockRun → Turn
last_turn block emitted run = last_turn_by run.end block emitted run

-- the turns of these block runs, of which the last ends the run, after what was emitted before
abbrev pub turns_after : ℕ → Emitted → List BlockRun → List Turn
turns_after block emitted [] = []
turns_after block emitted (run ∷ []) = last_turn block emitted run ∷ []
turns_after block emitted (run ∷ next ∷ block_runs) = middle_turn block emitted run ∷ turns_after block (with_group emitted run) (next ∷ block_runs)

-- the turns of a run
abbrev pub outcome : Task → List (List ℕ) → List Turn
outcome task blocks = turns_after task.sizes.block nothing_emitted (block_runs_of task blocks)

-- the blocks that turns append
abbrev pub appended_by : List Turn → List (List ℕ)
appended_by = flat_map (λ turn. turn.blocks)

-- how the last of some turns ends the run
abbrev pub ending_of : List Turn → Option Ending
ending_of turns = option_and_then (λ turn. turn.ending) (last_or None turns)

-- the ending is a success
abbrev pub Succeeds : Option Ending → Type 0
Succeeds ending = IsSomeAnd ending (λ e. e.status ≡ SUCCESS)

-- the last turn ends the run with success, and no other does
abbrev pub EndsWithLast : List Turn → Type 0
EndsWithLast [] = ⊥
EndsWithLast (turn ∷ []) = Succeeds turn.ending
EndsWithLast (turn ∷ next ∷ turns) = (turn.ending ≡ None) × EndsWithLast (next ∷ turns)

-- a success that tells the frames of these block runs and the blocks of these turns; the scratch bytes that
-- the last block run left are the result
abbrev pub success_of : List BlockRun → List Turn → Ending
success_of block_runs turns = success (frames_of block_runs) (length (appended_by turns)) (last_scratch block_runs)

-- ---- the rest of a run

-- how far a run has come: the index of the next block, the scratch bytes, the bytes of the block that
-- isn't appended yet, and the frames and blocks so far
pub record Progress : Type 0 where
  pub index : ℕ
  pub scratch : List ℕ
  pub pending : List ℕ
  pub frames : ℕ
  pub appended : ℕ

-- how far a run has come before its first turn
abbrev pub at_admission : Progress
at_admission = record { index = 0; scratch = no_scratch; pending = []; frames = 0; appended = 0 }

-- the pending bytes stand for one group
abbrev pub emitted_by : Progress → Emitted
emitted_by so_far = record { groups = so_far.pending ∷ []; frames = so_far.frames; appended = so_far.appended }

-- the turns that are left of a run that has come so far, of the source blocks still to come
abbrev pub rest : Task → Progress → List (List ℕ) → List Turn
rest task so_far blocks =
    turns_after task.sizes.block (emitted_by so_far) (until_ended (block_runs_from task so_far.index so_far.scratch blocks))
