-- Where a device begins, that its namespace loads again when it was saved, and what its users ask of completions and runs.
use Rattle.std.specs.Prelude.{ℕ, Bool, true, false, ◌≡◌, ◌≤◌, ◌<◌, ◌+◌, List, ◌∷◌, ◌++◌, length, map, Option, Ok}
use Rattle.std.specs.List.{AllByRecursion, filter, zip}
use Rattle.zone_state.specs.declared.status.TheConstants.Status.{SUCCESS}
use Rattle.nvme_entry.specs.declared.command.RunCommand.{RunCommand}
use Rattle.device_meaning.specs.Completions.{active_runs, completions, submissions}
use Rattle.device_meaning.specs.EventReplies.{Happening, IsCompletionOf, Submission, submission_of}
use Rattle.device_meaning.specs.Events.{Occurrence, replies_to, state_after}
use Rattle.device_meaning.specs.Happenings.{admitted_place, happens}
use Rattle.device_meaning.specs.Judging.{Judge, interval_judge}
use Rattle.device_meaning.specs.WantOfMemory.{wants_memory}
use Rattle.common_definitions.specs.Bytes.{AreBytes}
use Rattle.image_store.specs.Geometry.{Shape, IsShape}
use Rattle.image_store.specs.Namespace.{ZonedNamespace, all_empty}
use Rattle.image_text.specs.Reading.{namespace_in}
use Rattle.image_text.specs.Text.{text}
use Rattle.device_meaning.specs.Reached.{IsReached}
use Rattle.device_meaning.specs.State.{Place, State, new_state, place_at}
use Rattle.device_events.specs.Replies.{ReplyWithData}
use Rattle.device_events.specs.ToldEvents as told
use Rattle.pushdown.specs.Pushdown.{IsAdmitted, blocks_at, is_turn_of, next, now, own_turns}

-- a device begins in a state that events leave with a namespace of which nothing is written (it follows from
-- `NewIsReached`, as such a namespace is sound)
abbrev pub EmptyIsReached : Type 0
EmptyIsReached = (shape : Shape) → IsShape shape → IsReached interval_judge (new_state (all_empty shape))

-- and so it does with one that was loaded (as such a namespace is sound, too)
abbrev pub LoadedIsReached : Type 0
LoadedIsReached =
    (bytes : List ℕ) (ns : ZonedNamespace) → AreBytes bytes → namespace_in bytes ≡ Ok ns → IsReached interval_judge (new_state ns)

-- what is saved loads again as the same namespace, whatever events happened before (it follows from
-- `SavedTextsLoad` and `StatesAreSound`)
abbrev pub SavedStatesLoad : Type 0
SavedStatesLoad = (s : State) → IsReached interval_judge s → namespace_in (text s.namespace) ≡ Ok s.namespace

-- ---- completions

-- no submission is completed twice: each queue and identifier has at most as many completions as submissions, those of the runs that
-- were active before among them (it follows from `NoCompletionIsLost`)
abbrev pub CompletedAtMostOnce : Judge → Type 0
CompletedAtMostOnce judge =
    (queue cid : ℕ) (s : State) (events : List Occurrence)
    → completions queue cid (replies_to judge events s) ≤ submissions queue cid events + active_runs queue cid s

-- ---- the same events

-- memory isn't refused to an event that asks for it
abbrev pub IsGivenMemory : Occurrence → Type 0
IsGivenMemory o = wants_memory o.event ≡ true → o.starved ≡ false

-- two devices in one state that do the same events, and are given the memory that these ask for, answer the same, and come to one state:
-- whichever doors the events came through, nothing else decides what they come to
abbrev pub SameEventsSameAnswers : Judge → Type 0
SameEventsSameAnswers judge =
    (s : State) (first second : List Occurrence) → map (λ o. o.event) first ≡ map (λ o. o.event) second
    → AllByRecursion IsGivenMemory first → AllByRecursion IsGivenMemory second
    → (replies_to judge first s ≡ replies_to judge second s) × (state_after judge first s ≡ state_after judge second s)

-- ---- the turns of a run

-- an admitted Run has at most as many turns as source blocks
abbrev pub TurnsAreFew : Type 0
TurnsAreFew = (s : State) (sub : Submission) (command : RunCommand) → length (admitted_place sub s command).turns ≤ command.blocks

-- one of these events is a turn of the run, and the reply to it is the run's completion, a success
pub record IsCompletedAmong (judge : Judge) (s : State) (run : ℕ) (place : Place) (events : List Occurrence) : Type 0 where
  pub before : List Occurrence
  pub last : Occurrence
  pub later : List Occurrence
  pub are : events ≡ before ++ last ∷ later
  pub own : is_turn_of run last.event ≡ true
  pub reply : IsCompletionOf place.queue place.cid (λ status. status ≡ SUCCESS)
      (happens judge (state_after judge before s) last.starved last.event).reply

-- In each state that events leave: whatever events follow an admitted Run, once as many of them were its own turns as it has source
-- blocks, its completion is among the replies.
abbrev pub EnoughTurnsComplete : Judge → Type 0
EnoughTurnsComplete judge =
    (s : State) → IsReached judge s
    → (queue : ℕ) (entry input : List ℕ) (starved : Bool) (command : RunCommand) (run : ℕ) (events : List Occurrence)
    → IsAdmitted s (submission_of queue entry input) command run → command.blocks ≤ own_turns run events
    → IsCompletedAmong judge (happens judge s starved (told.Submitted queue entry input)).state run
    (admitted_place (submission_of queue entry input) s command) events

-- the replies to a run's own turns, of those to these events, in order
abbrev pub own_answers : ℕ → List Occurrence → List ReplyWithData → List ReplyWithData
own_answers run events replies = map (λ x. x.1) (filter (λ x. is_turn_of run x.0.event) (zip events replies))

-- a Run that is admitted, and events after it
module _ (judge : Judge) (s : State) (queue : ℕ) (entry input : List ℕ) (starved : Bool) (command : RunCommand) (run : ℕ) where
  -- what its own turns among the events were answered
  abbrev pub answers_so_far : List Occurrence → List ReplyWithData
  answers_so_far events =
      own_answers run events (replies_to judge events (happens judge s starved (told.Submitted queue entry input)).state)

  -- its place then, which has the turns that are left
  abbrev pub place_then : List Occurrence → Option Place
  place_then events = place_at (now judge s queue entry input starved command run events) run

  -- the blocks of its destination in a state
  abbrev pub its_blocks : State → List (List ℕ)
  its_blocks t = blocks_at t (admitted_place (submission_of queue entry input) s command).destination

  -- the blocks there after the events
  abbrev pub blocks_then : List Occurrence → List (List ℕ)
  blocks_then events = its_blocks (now judge s queue entry input starved command run events)

  -- its next turn after the events
  abbrev pub turn_then : List Occurrence → Happening
  turn_then events = next judge s queue entry input starved command run events

  -- Two lists of events come to the same for the run: its turns so far were answered the same, the same turns are left, and its
  -- destination has the same blocks. Its next turn is answered the same, the last by the completion, and leaves the same blocks there.
  pub record ComeToTheSameRun (first second : List Occurrence) : Type 0 where
    pub answers : answers_so_far first ≡ answers_so_far second
    pub left : place_then first ≡ place_then second
    pub blocks : blocks_then first ≡ blocks_then second
    pub next_answer : (turn_then first).reply ≡ (turn_then second).reply
    pub next_blocks : its_blocks (turn_then first).state ≡ its_blocks (turn_then second).state

-- In each state that events leave: what an admitted Run comes to depends neither on when its turns come nor on what comes between
-- them. Any two lists of events with as many turns of it, fewer than it has, come to the same for it.
abbrev pub OutcomeIsItsOwn : Judge → Type 0
OutcomeIsItsOwn judge =
    (s : State) → IsReached judge s
    → (queue : ℕ) (entry input : List ℕ) (starved : Bool) (command : RunCommand) (run : ℕ) (first second : List Occurrence)
    → IsAdmitted s (submission_of queue entry input) command run
    → own_turns run first ≡ own_turns run second
    → own_turns run first < length (admitted_place (submission_of queue entry input) s command).turns
    → ComeToTheSameRun judge s queue entry input starved command run first second
