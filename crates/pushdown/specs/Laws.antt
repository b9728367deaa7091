-- Laws of entries: what a refused one leaves, which change slots, and which is admitted as a run; of the turns of a run; and that
-- what a run appends unpacks to what was emitted.
use Rattle.std.specs.Prelude.{ℕ, Bool, false, ◌≡◌, ◌≢◌, List, [], ◌∷◌, length, map, Option, Some, None, Ok, ◌⊎◌}
use Rattle.std.specs.List.{concat, flat_map}
use Rattle.zone_state.specs.declared.status.TheConstants.Status.{SUCCESS}
use Rattle.nvme_entry.specs.Entry.{decoded, identifier_of}
use Rattle.nvme_entry.specs.declared.command.Command.TheVariants as commands
use Rattle.nvme_entry.specs.declared.command.LoadCommand.{LoadCommand}
use Rattle.nvme_entry.specs.declared.command.RunCommand.{RunCommand}
use Rattle.instruction_set.specs.declared.instruction.Instruction.{Instruction}
use Rattle.program_interface.specs.Frame.{frames}
use Rattle.program_meaning.specs.BlockRun.{BlockRun}
use Rattle.device_meaning.specs.Judging.{Judge}
use Rattle.emit_append.specs.Unpacking.{unpacked}
use Rattle.device_meaning.specs.Admission.{source_blocks, task_of}
use Rattle.device_meaning.specs.EventReplies.{CompletesOnlyWith, Happening, IsCompletionOf, Submission, completion, submission_of}
use Rattle.device_events.specs.Replies.{without_data}
use Rattle.device_meaning.specs.BlockRuns.{block_runs_of, frames_of, groups_of}
use Rattle.device_meaning.specs.Events.{Occurrence}
use Rattle.device_meaning.specs.Happenings.{admitted_place, happens, just_loaded, sizes_for, turned}
use Rattle.device_meaning.specs.Outcome.{Ending, Turn, appended_by, outcome}
use Rattle.device_meaning.specs.Laws.{IsAnswered}
use Rattle.pushdown.specs.Pushdown.{IsAdmitted, is_turn_of}
use Rattle.device_meaning.specs.Reached.{IsReached}
use Rattle.device_meaning.specs.State.{Place, State, loaded_at, place_at, with_slot}
use Rattle.device_events.specs.ToldEvents.{ToldEvent}
use Rattle.device_events.specs.ToldEvents as told
use Rattle.device_events.specs.declared.reply.Reply.TheVariants as reply

-- ---- refused entries, and slots

-- the reply to an entry, whatever its command is, is Pending or such a completion
abbrev pub RefusedLeavesState : Judge → Type 0
RefusedLeavesState judge =
    (s : State) (starved : Bool) (queue : ℕ) (entry input : List ℕ)
    → let h = happens judge s starved (told.Submitted queue entry input) in
    ((run : ℕ) × (h.reply ≡ without_data (reply.Pending run))) ⊎ IsAnswered s (submission_of queue entry input) h

-- an event that is refused leaves the state as it was: a turn of no run, a fault that isn't taken, and what is completed
-- with a status that isn't success
pub record LeavesIfRefused (s : State) (e : ToldEvent) (h : Happening) : Type 0 where
  pub idle : h.reply ≡ without_data reply.Idle → h.state ≡ s
  pub fault : h.reply ≡ without_data reply.FaultRefused → h.state ≡ s
  pub completed : CompletesOnlyWith (λ status. status ≢ SUCCESS → h.state ≡ s) s e h.reply

-- in each state that events leave, every event that is refused leaves the state
abbrev pub RefusedEventsLeaveState : Judge → Type 0
RefusedEventsLeaveState judge =
    (s : State) (o : Occurrence) → IsReached judge s → LeavesIfRefused s o.event (happens judge s o.starved o.event)

module _ (judge : Judge) where
  -- a Load succeeds: its slot gets the program that the judge makes of its data, with zeros as its result, and all else is as it
  -- was
  pub record IsLoaded (s : State) (sub : Submission) (load : LoadCommand) (h : Happening) : Type 0 where
    pub asked : decoded sub.entry ≡ Ok (commands.Load load)
    pub program : List (Option Instruction)
    pub accepted : judge sub.input (sizes_for s load) ≡ Ok program
    pub reply : h.reply ≡ completion sub.queue (identifier_of sub.entry) SUCCESS 0 0 []
    pub state : h.state ≡ with_slot s load.slot (Some (just_loaded program load.limit))

-- an entry leaves the slots as they were, or is such a Load
abbrev pub OnlyLoadsChangeSlots : Judge → Type 0
OnlyLoadsChangeSlots judge =
    (s : State) (starved : Bool) (queue : ℕ) (entry input : List ℕ)
    → let h = happens judge s starved (told.Submitted queue entry input) in
    (h.state.slots ≡ s.slots)
    ⊎ ((load : LoadCommand) × IsLoaded judge s (submission_of queue entry input) load h)

-- ---- admission and turns

-- the reply to a Run that is admitted is Pending with its number, and it takes that place; all else is as it was
pub record StartsRun (s : State) (sub : Submission) (command : RunCommand) (run : ℕ) (h : Happening) : Type 0 where
  pub reply : h.reply ≡ without_data (reply.Pending run)
  pub place : place_at h.state run ≡ Some (admitted_place sub s command)
  pub others : (other : ℕ) → other ≢ run → place_at h.state other ≡ place_at s other
  pub namespace : h.state.namespace ≡ s.namespace
  pub slots : h.state.slots ≡ s.slots

-- a Run that is admitted has its outcome at its place
abbrev pub AdmittedStarts : Judge → Type 0
AdmittedStarts judge =
    (s : State) (starved : Bool) (queue : ℕ) (entry input : List ℕ) (command : RunCommand) (run : ℕ)
    → let sub = submission_of queue entry input in
    IsAdmitted s sub command run → StartsRun s sub command run (happens judge s starved (told.Submitted queue entry input))

-- and where the reply to an entry is Pending, a Run was admitted
abbrev pub PendingIsAdmitted : Judge → Type 0
PendingIsAdmitted judge =
    (s : State) (starved : Bool) (queue : ℕ) (entry input : List ℕ) (run : ℕ)
    → (happens judge s starved (told.Submitted queue entry input)).reply ≡ without_data (reply.Pending run)
    → (command : RunCommand) × IsAdmitted s (submission_of queue entry input) command run

-- an event that is no turn of a run leaves its turns as they were
abbrev pub ForeignLeavesTurns : Judge → Type 0
ForeignLeavesTurns judge =
    (s : State) (o : Occurrence) (run : ℕ) (place : Place)
    → is_turn_of run o.event ≡ false → place_at s run ≡ Some place
    → place_at (happens judge s o.starved o.event).state run ≡ Some place

-- the first turn of a run is taken: where the run goes on those after it are left, and where it ends its place is
-- empty
pub record FirstIsTaken (s : State) (run : ℕ) (place : Place) (turn : Turn) (later : List Turn) : Type 0 where
  pub later_left : turn.ending ≡ None → place_at (turned s run).state run ≡ Some (record place { turns = later })
  pub place_freed : (ending : Ending) → turn.ending ≡ Some ending → place_at (turned s run).state run ≡ None

-- a turn of a run takes the first of its turns
abbrev pub TurnTakesFirst : Type 0
TurnTakesFirst =
    (s : State) (run : ℕ) (place : Place) (turn : Turn) (later : List Turn)
    → place_at s run ≡ Some place → place.turns ≡ turn ∷ later → FirstIsTaken s run place turn later

-- the last turn of a run is answered with the run's completion, a success, and leaves its place empty
pub record CompletesRun (run : ℕ) (place : Place) (h : Happening) : Type 0 where
  pub reply : IsCompletionOf place.queue place.cid (λ status. status ≡ SUCCESS) h.reply
  pub place_freed : place_at h.state run ≡ None

-- a turn that isn't the last is answered with Pending, and leaves those after it
pub record LeavesLater (run : ℕ) (place : Place) (later : List Turn) (h : Happening) : Type 0 where
  pub reply : h.reply ≡ without_data (reply.Pending run)
  pub later_left : place_at h.state run ≡ Some (record place { turns = later })

-- in each state that events leave, the last turn of a run completes it, and no other does
abbrev pub LastTurnCompletes : Judge → Type 0
LastTurnCompletes judge =
    (s : State) → IsReached judge s
    → (run : ℕ) (place : Place) (turn : Turn) (later : List Turn) → place_at s run ≡ Some place → place.turns ≡ turn ∷ later
    → ((later ≡ []) × CompletesRun run place (turned s run)) ⊎ ((later ≢ []) × LeavesLater run place later (turned s run))

-- ---- in a user's words

-- the records of these groups are what block runs emitted, of which there are as many as they count frames
pub record AreEmitted (block_runs : List BlockRun) (records : List (List (List ℕ))) : Type 0 where
  pub groups : groups_of block_runs ≡ map frames records
  pub counted : length (flat_map (λ group. group) records) ≡ frames_of block_runs

-- what an admitted run appends reads back as the records that its block runs emit, in order
abbrev pub OutcomeUnpacks : Judge → Type 0
OutcomeUnpacks judge =
    (s : State) → IsReached judge s
    → (sub : Submission) (command : RunCommand) (run : ℕ) → IsAdmitted s sub command run
    → let task = task_of s.namespace (loaded_at s command.slot) command in
    let source = source_blocks s.namespace command in
    (records : List (List (List ℕ))) × (AreEmitted (block_runs_of task source) records
    × (unpacked task.sizes.block (concat (appended_by (outcome task source))) ≡ Ok (flat_map (λ group. group) records)))
