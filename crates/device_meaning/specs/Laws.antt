-- Laws of runs: the rest and the outcome of one, and what events and turns leave of what it needs; and what holds of each
-- state that events leave.
use Rattle.std.specs.Prelude.{◌≤◌, ◌*◌, ℕ, true, false, ◌≡◌, ◌≢◌, ◌+◌, List, [], ◌∷◌, length, Option, Some, None, Ok, ◌⊎◌, is_some}
use Rattle.std.specs.List.{AllByRecursion, concat}
use Rattle.common_definitions.specs.Bytes.{AreBytes}
use Rattle.common_definitions.specs.Checks.{first_failed}
use Rattle.zone_state.specs.State.{is_open}
use Rattle.zone_state.specs.declared.status.TheConstants.Status.{SUCCESS, PROGRAM_TRAPPED}
use Rattle.zone_resources.specs.Holds.{no_holds}
use Rattle.nvme_entry.specs.Entry.{identifier_of}
use Rattle.program_meaning.specs.BlockRun.{BlockRun}
use Rattle.program_meaning.specs.TrapFree.{IsExit, NeverTraps}
use Rattle.emit_append.specs.Packing.{packed, pending_of, released}
use Rattle.image_store.specs.Namespace.{ZoneWithBlocks, ZonedNamespace, zone_at, shape, IsNamespace}
use Rattle.zns_commands.specs.Append.{TakesBlocks, append_checks, append_effect}
use Rattle.zns_commands.specs.Left.{Grows}
use Rattle.device_meaning.specs.Admission.{Loaded, SameProgram, sizes_in}
use Rattle.device_meaning.specs.EventReplies.{CompletesOnlyWith, Happening, IsCompletionOf, Submission}
use Rattle.device_meaning.specs.BlockRuns.{Task, block_run, block_runs_of, goes_on, groups_of, scratch_after}
use Rattle.device_meaning.specs.Draining.{Drains, turns_left}
use Rattle.device_meaning.specs.Events.{Occurrence}
use Rattle.device_meaning.specs.Happenings.{added, happens, turned}
use Rattle.device_meaning.specs.Judging.{Judge}
use Rattle.device_meaning.specs.Outcome.{Ending, EndsWithLast, Progress, Turn, appended_by, at_admission, ending_of, last_turn, outcome, emitted_by, rest, success_of}
use Rattle.device_meaning.specs.Reached.{IsReached}
use Rattle.device_meaning.specs.State.{Place, State, loaded_at, place_at}

-- ---- the rest of a run

-- the rest of a run at its admission is its outcome
abbrev pub RestAtAdmission : Type 0
RestAtAdmission = (task : Task) (blocks : List (List ℕ)) → rest task at_admission blocks ≡ outcome task blocks

-- how far a run has come after one more block run
abbrev pub further : Task → Progress → BlockRun → Progress
further task so_far run =
    let groups = so_far.pending ∷ run.state.group ∷ [] in
    record {
      index = so_far.index + 1;
      scratch = scratch_after run;
      pending = pending_of task.sizes.block groups;
      frames = so_far.frames + run.state.frames;
      appended = so_far.appended + length (released task.sizes.block groups);
    }

-- the turn that is next, where the run goes on
abbrev pub next_turn : Task → Progress → BlockRun → Turn
next_turn task so_far run = record { blocks = released task.sizes.block (so_far.pending ∷ run.state.group ∷ []); ending = None }

-- the rest of a run that goes on is its next turn, and the rest after it
abbrev pub RestGoesOn : Type 0
RestGoesOn =
    (task : Task) (so_far : Progress) (bytes more : List ℕ) (blocks : List (List ℕ))
    → let run = block_run task so_far.index so_far.scratch bytes in
    goes_on run.end ≡ true
    → rest task so_far (bytes ∷ more ∷ blocks) ≡ next_turn task so_far run ∷ rest task (further task so_far run) (more ∷ blocks)

-- a run ends with a block: it doesn't go on after the block run over it, or no source block is left behind it
abbrev pub Ends : Task → Progress → List ℕ → List (List ℕ) → Type 0
Ends task so_far bytes blocks = (goes_on (block_run task so_far.index so_far.scratch bytes).end ≡ false) ⊎ (blocks ≡ [])

-- where the run ends with a block, its last turn alone is left
abbrev pub RestEnds : Type 0
RestEnds =
    (task : Task) (so_far : Progress) (bytes : List ℕ) (blocks : List (List ℕ)) → Ends task so_far bytes blocks
    → rest task so_far (bytes ∷ blocks) ≡ last_turn task.sizes.block (emitted_by so_far) (block_run task so_far.index so_far.scratch bytes) ∷ []

-- no more turns are left than source blocks
abbrev pub RestIsFew : Type 0
RestIsFew = (task : Task) (so_far : Progress) (blocks : List (List ℕ)) → length (rest task so_far blocks) ≤ length blocks

-- ---- the outcome

-- There are as many turns as block runs. All that they append is the packing of the groups of these, and the last turn
-- tells how many frames the groups hold and how many blocks they come to.
pub record IsWholeOutcome (task : Task) (block_runs : List BlockRun) (turns : List Turn) : Type 0 where
  pub blocks : appended_by turns ≡ packed task.sizes.block (groups_of block_runs)
  pub one_each : length turns ≡ length block_runs
  pub ending : 1 ≤ length block_runs → ending_of turns ≡ Some (success_of block_runs turns)

-- where each block run of a run ends by EXIT, its turns are such an outcome
abbrev pub OutcomeIsPacked : Type 0
OutcomeIsPacked =
    (task : Task) (blocks : List (List ℕ)) → AllByRecursion (λ run. IsExit run.end) (block_runs_of task blocks)
    → IsWholeOutcome task (block_runs_of task blocks) (outcome task blocks)

-- ---- entries and events

-- an entry is completed with a status, and where that isn't success the state is as it was
abbrev pub IsAnswered : State → Submission → Happening → Type 0
IsAnswered s sub h = IsCompletionOf sub.queue (identifier_of sub.entry) (λ status. status ≢ SUCCESS → h.state ≡ s) h.reply

-- what is kept for an active run: the blocks of its source, its program, and the shape of the namespace
pub record KeepsFor (place : Place) (s t : State) : Type 0 where
  pub source : Grows (zone_at s.namespace place.source).blocks (zone_at t.namespace place.source).blocks
  pub program : SameProgram (loaded_at s place.slot) (loaded_at t place.slot)
  pub shape_kept : shape t.namespace ≡ shape s.namespace

-- every event keeps it, the turns of the run and of others among them
abbrev pub EventsKeepForRuns : Judge → Type 0
EventsKeepForRuns judge =
    (s : State) (o : Occurrence) (run : ℕ) (place : Place) → place_at s run ≡ Some place
    → KeepsFor place s (happens judge s o.starved o.event).state

-- ---- the states that events leave

-- what is left of a run fits into its destination, which is open as long as it isn't filled
pub record RoomIn (capacity : ℕ) (zone : ZoneWithBlocks) (turns : List Turn) : Type 0 where
  pub room : length zone.blocks + length (appended_by turns) ≤ capacity
  pub opened : (is_open zone.state ≡ true) ⊎ (length zone.blocks ≡ capacity)

-- a turn's blocks come to their zone as by a Zone Append that meets no hold, and no check refuses that
pub record IsAppended (ns : ZonedNamespace) (z : ℕ) (blocks : List (List ℕ)) : Type 0 where
  pub takes : TakesBlocks ns z (concat blocks)
  pub passes : first_failed (append_checks ns no_holds (z * ns.size) (length blocks) (concat blocks)) ≡ None
  pub effect : added ns z blocks ≡ (append_effect ns no_holds (z * ns.size) (concat blocks)).namespace

module _ (judge : Judge) where
  -- the program of a slot is what the judge made of some bytes for the slot's emit limit, at most a block, and the blocks of the
  -- namespace; over these it never traps. (That the bytes spell it, JudgedIsSpelled says of judges by facts.)
  pub record IsAcceptedIn (ns : ZonedNamespace) (loaded : Loaded) : Type 0 where
    pub bytes : List ℕ
    pub are : AreBytes bytes
    pub accepted : judge bytes (sizes_in ns (Some loaded)) ≡ Ok loaded.program
    pub limit : loaded.limit ≤ ns.block
    pub never_traps : NeverTraps loaded.program loaded.limit ns.block

  -- in each state that events leave, the namespace is sound, each loaded program is accepted, what is left of
  -- each run fits, what its next turn appends is appended, and the last of its turns ends it with success
  pub record IsSoundState (s : State) : Type 0 where
    pub namespace : IsNamespace s.namespace
    pub programs : (slot : ℕ) (loaded : Loaded) → loaded_at s slot ≡ Some loaded → IsAcceptedIn s.namespace loaded
    pub rooms : (run : ℕ) (place : Place) → place_at s run ≡ Some place
        → RoomIn s.namespace.capacity (zone_at s.namespace place.destination) place.turns
    pub appends : (run : ℕ) (place : Place) (turn : Turn) (later : List Turn) → place_at s run ≡ Some place
        → place.turns ≡ turn ∷ later → turn.blocks ≢ [] → IsAppended s.namespace place.destination turn.blocks
    pub ends : (run : ℕ) (place : Place) → place_at s run ≡ Some place → EndsWithLast place.turns

-- what holds of each state that events leave
abbrev pub StatesAreSound : Judge → Type 0
StatesAreSound judge = (s : State) → IsReached judge s → IsSoundState judge s

-- in each state that events leave, no reply tells that a program couldn't go on
abbrev pub NoReplyIsTrapped : Judge → Type 0
NoReplyIsTrapped judge =
    (s : State) (o : Occurrence) → IsReached judge s
    → CompletesOnlyWith (λ status. status ≢ PROGRAM_TRAPPED) s o.event (happens judge s o.starved o.event).reply

-- in each state that events leave, a turn of an active run leaves fewer turns
abbrev pub TurnsLeaveFewer : Judge → Type 0
TurnsLeaveFewer judge =
    (s : State) (run : ℕ) → IsReached judge s → is_some (place_at s run) ≡ true
    → turns_left (turned s run).state.places + 1 ≤ turns_left s.places

-- in each state that events leave, turns of the lowest active run come to an end
abbrev pub DrainingEnds : Judge → Type 0
DrainingEnds judge = (s : State) → IsReached judge s → (runs : List ℕ) × Drains s runs

-- ---- what the blocks of a turn leave

-- blocks that are added to a zone leave the shape of the namespace, and each other zone
pub record OthersStay (ns : ZonedNamespace) (z : ℕ) (blocks : List (List ℕ)) : Type 0 where
  pub same_shape : shape (added ns z blocks) ≡ shape ns
  pub others : (other : ℕ) → other ≢ z → zone_at (added ns z blocks) other ≡ zone_at ns other

-- blocks put into a zone leave the shape and every other zone
abbrev pub BlocksLeaveOthers : Type 0
BlocksLeaveOthers = (ns : ZonedNamespace) (z : ℕ) (blocks : List (List ℕ)) → OthersStay ns z blocks

-- a zone with room for turns, of which the first appends a block, is open
abbrev pub RoomIsOpen : Type 0
RoomIsOpen =
    (capacity : ℕ) (zone : ZoneWithBlocks) (b : List ℕ) (bs : List (List ℕ)) (ending : Option Ending) (later : List Turn)
    → RoomIn capacity zone (record { blocks = b ∷ bs; ending = ending } ∷ later) → is_open zone.state ≡ true

-- and when the first has appended, it has room for the later ones
abbrev pub RoomStays : Type 0
RoomStays =
    (ns : ZonedNamespace) (z : ℕ) (blocks : List (List ℕ)) (ending : Option Ending) (later : List Turn)
    → RoomIn ns.capacity (zone_at ns z) (record { blocks = blocks; ending = ending } ∷ later)
    → RoomIn ns.capacity (zone_at (added ns z blocks) z) later
