-- The pushdown theorem: for every accepted program, every state that any list of events leaves, and every
-- Run admitted there, whatever events follow, turns of its own among them:
-- 1. no turn traps;
-- 2. each turn takes at most as many steps as the program has instructions;
-- 3. memory outside the granted areas is neither read nor changed: each block run keeps to them, from its start to its
--    end; and each turn changes no zone but the destination, and that one by blocks at its end; it leaves other runs'
--    places and other slots, and reads nothing but source blocks;
-- 4. each turn is the one that is fixed at admission: the blocks that it appends, the completion, and all that
--    it leaves: the namespace, the run's place and the slots;
-- 5. the completion tells how many frames were emitted and how many blocks were appended; both fit into its 32 bits.
use Rattle.std.specs.Prelude.{ℕ, Bool, false, ◌≡◌, ◌≢◌, ◌≤◌, ◌<◌, ◌+◌, ◌^◌, ◌==◌, List, [], ◌∷◌, ◌++◌, length, take, drop, get_or, slice_get, Some, None, Ok}
use Rattle.std.specs.List.{AllByRecursion, count_by}
use Rattle.nvme_entry.specs.Entry.{decoded}
use Rattle.nvme_entry.specs.declared.command.Command.TheVariants as commands
use Rattle.nvme_entry.specs.declared.command.RunCommand.{RunCommand}
use Rattle.instruction_set.specs.Program.{instruction_count}
use Rattle.program_meaning.specs.BlockRun.{BlockRun, block_run_of}
use Rattle.program_meaning.specs.Granted.{KeepsToGrantedAreas}
use Rattle.program_meaning.specs.TrapFree.{IsExit}
use Rattle.device_meaning.specs.Judging.{IsSoundJudge, Judge}
use Rattle.image_store.specs.Namespace.{IsNamespace, ZonedNamespace, zone_at, shape}
use Rattle.device_meaning.specs.Admission.{SameProgram, source_blocks, task_of}
use Rattle.device_meaning.specs.EventReplies.{Happening, Submission, submission_of}
use Rattle.device_meaning.specs.BlockRuns.{Task, block_runs_of, frames_of, start_of}
use Rattle.device_meaning.specs.Events.{AreEvents, Occurrence, state_after}
use Rattle.device_meaning.specs.Happenings.{admitted_place, turn_reply, turn_state, turned, why_not_run}
use Rattle.device_meaning.specs.Outcome.{EndsWithLast, Turn, appended_by, ending_of, outcome, success_of}
use Rattle.device_meaning.specs.Reached.{IsReached}
use Rattle.device_meaning.specs.State.{Place, State, free_place, loaded_at, new_state, place_at}
use Rattle.device_events.specs.ToldEvents.{ToldEvent}
use Rattle.device_events.specs.ToldEvents as told

-- ---- events

-- is the event a turn of this run?
abbrev pub is_turn_of : ℕ → ToldEvent → Bool
is_turn_of run (told.Turned other) = other == run
is_turn_of run _ = false

-- how many of the events are turns of a run; all others are those of others
abbrev pub own_turns : ℕ → List Occurrence → ℕ
own_turns run events = count_by (λ o. is_turn_of run o.event) events

-- ---- turns

-- a Run is admitted: no check refuses it, and the lowest free place is its own, with this number
pub record IsAdmitted (s : State) (sub : Submission) (command : RunCommand) (run : ℕ) : Type 0 where
  pub asked : decoded sub.entry ≡ Ok (commands.Run command)
  pub passed : why_not_run sub s command ≡ None
  pub free : free_place s ≡ Some run

-- the blocks of a zone
abbrev pub blocks_at : State → ℕ → List (List ℕ)
blocks_at s z = (zone_at s.namespace z).blocks

-- a turn that appends nothing and ends no run
abbrev pub no_turn : Turn
no_turn = record { blocks = []; ending = None }

-- ---- the five parts

module _ (judge : Judge) where
  -- a Run that is submitted in a state, its number, and the events that follow
  module _ (s : State) (queue : ℕ) (entry input : List ℕ) (starved : Bool) (command : RunCommand) (run : ℕ)
      (events : List Occurrence) where
    -- what is fixed at admission: what the run is about, which with the source blocks decides its block runs and its turns
    abbrev pub task : Task
    task = task_of s.namespace (loaded_at s command.slot) command

    -- its source blocks
    abbrev pub source : List (List ℕ)
    source = source_blocks s.namespace command

    -- its block runs
    abbrev pub block_runs : List BlockRun
    block_runs = block_runs_of task source

    -- the place that it is given
    abbrev pub place : Place
    place = admitted_place (submission_of queue entry input) s command

    -- the state that the Run and the events leave
    abbrev pub now : State
    now = state_after judge (record { event = told.Submitted queue entry input; starved = starved } ∷ events) s

    -- how many of the events are its own turns
    abbrev pub done : ℕ
    done = own_turns run events

    -- the next turn of the run
    abbrev pub turn : Turn
    turn = get_or place.turns done no_turn

    -- what that turn comes to
    abbrev pub next : Happening
    next = turned now run

    -- 1. No turn traps: each block run ends by EXIT, and the run's last turn ends it, with success.
    pub record NoTurnTraps : Type 0 where
      pub exits : AllByRecursion (λ r. IsExit r.end) block_runs
      pub ends : EndsWithLast place.turns

    -- 2. Each turn takes at most as many steps as the program has instructions. It isn't cut off there: each block run is the same, however
    -- many more steps it may take.
    pub record FewSteps : Type 0 where
      pub few : AllByRecursion (λ r. r.steps ≤ instruction_count task.program) block_runs
      pub not_cut_off : (more index : ℕ) → index < length block_runs → slice_get block_runs index
          ≡ Some (block_run_of task.program task.sizes.limit (instruction_count task.program + more) 0 (start_of task source index))

    -- 3. Within memory: each block run, begun on its source block with the scratch bytes that the one before it left, keeps to
    -- the granted areas. Whatever stands outside of them, a machine that checks no access comes to the same states, and
    -- leaves that as it was; and in each state that the block run comes to, each access lies in one area.
    pub record StaysInGrantedAreas : Type 0 where
      pub from_start : (index : ℕ) → index < length block_runs → slice_get block_runs index
          ≡ Some (block_run_of task.program task.sizes.limit (instruction_count task.program) 0 (start_of task source index))
      pub keeps : (index : ℕ) → index < length block_runs
          → KeepsToGrantedAreas task.program task.sizes.limit (start_of task source index)

    -- Within the namespace: a turn changes no zone but the destination, and that one by blocks at its end. It leaves every other
    -- run's place, and every slot but the result of its own. Equal source blocks give equal turns: nothing
    -- else is read.
    pub record ChangesDestinationAlone : Type 0 where
      pub others : (z : ℕ) → z ≢ place.destination → zone_at next.state.namespace z ≡ zone_at now.namespace z
      pub shape_kept : shape next.state.namespace ≡ shape now.namespace
      pub at_its_end : blocks_at next.state place.destination ≡ blocks_at now place.destination ++ turn.blocks
      pub other_runs : (other : ℕ) → other ≢ run → place_at next.state other ≡ place_at now other
      pub other_slots : (slot : ℕ) → slot ≢ command.slot → loaded_at next.state slot ≡ loaded_at now slot
      pub program_left : SameProgram (loaded_at now command.slot) (loaded_at next.state command.slot)
      pub same_blocks : (ns : ZonedNamespace) → ns.block ≡ s.namespace.block
          → source_blocks ns command ≡ source_blocks s.namespace command
          → outcome (task_of ns (loaded_at s command.slot) command) (source_blocks ns command) ≡ place.turns

    -- 4. After k own turns the first k turns of those fixed at admission are done: their blocks stand in order
    -- directly behind what the destination held at admission, and the others are left. The next turn is the first of
    -- these: the reply is what is fixed for it, and the state is that with its blocks in the destination as a Zone Append
    -- puts them there that meets no hold (`appends` of `StatesAreSound` says so of `added`, where the data of the events is
    -- bytes), and the turns after it at the run's place; the last one posts the completion, to the queue and with the
    -- identifier of the Run, frees the place, and leaves the last scratch bytes as the slot's result.
    pub record DoesItsTurns : Type 0 where
      pub left : place_at now run ≡ Some (record place { turns = drop done place.turns })
      pub appended : blocks_at now place.destination ≡ blocks_at s place.destination ++ appended_by (take done place.turns)
      pub does : next ≡ record {
        reply = turn_reply run place turn.ending;
        state = turn_state now run place turn (drop (done + 1) place.turns);
      }

    -- 5. The completion tells how many frames were emitted and how many blocks were appended, which fit into the
    -- 32 bits of its dwords.
    pub record TellsFramesAndBlocks : Type 0 where
      pub ending : ending_of place.turns ≡ Some (success_of block_runs place.turns)
      pub frames : frames_of block_runs < 2 ^ 32
      pub blocks : length (appended_by place.turns) < 2 ^ 32

    -- the run is pushed down: the five parts hold, those of a turn while turns are left
    pub record IsPushedDown : Type 0 where
      pub no_turn_traps : NoTurnTraps
      pub few_steps : FewSteps
      pub stays_in_granted_areas : StaysInGrantedAreas
      pub changes_destination_alone : done < length place.turns → ChangesDestinationAlone
      pub does_its_turns : done < length place.turns → DoesItsTurns
      pub tells_frames_and_blocks : TellsFramesAndBlocks

-- a state that events leave, whose data is bytes, of a new device
pub record IsLeftOfNew (judge : Judge) (s : State) : Type 0 where
  pub namespace : ZonedNamespace
  pub can_be : IsNamespace namespace
  pub events : List Occurrence
  pub bytes : AreEvents events
  pub leaves : s ≡ state_after judge events (new_state namespace)

-- In each state of a kind, whatever Run is admitted there, and whatever events follow, of which any number are the run's own turns.
abbrev pub PushesDownIn : Judge → (State → Type 0) → Type 0
PushesDownIn judge IsOfKind =
    (s : State) → IsOfKind s
    → (queue : ℕ) (entry input : List ℕ) (starved : Bool) (command : RunCommand) (run : ℕ) (after : List Occurrence)
    → IsAdmitted s (submission_of queue entry input) command run
    → IsPushedDown judge s queue entry input starved command run after

-- the theorem: in each state that events leave of a new device
abbrev pub Pushdown : Judge → Type 0
Pushdown judge = PushesDownIn judge (IsLeftOfNew judge)

-- the same of a device that was kept, too: in each state that events leave of what a device may begin with
abbrev pub PushdownFromAnyBeginning : Judge → Type 0
PushdownFromAnyBeginning judge = PushesDownIn judge (IsReached judge)

-- it holds of every sound judge: of how programs are judged it asks no more than that those accepted never trap
abbrev pub SoundJudgesPushDown : Type 0
SoundJudgesPushDown = (judge : Judge) → IsSoundJudge judge → Pushdown judge
