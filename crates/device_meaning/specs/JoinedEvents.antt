-- Lists of events, one behind another, and turns as events.
use Rattle.std.specs.Prelude.{ℕ, false, ◌≡◌, List, ◌++◌, length, map, None}
use Rattle.device_meaning.specs.Judging.{Judge}
use Rattle.device_events.specs.Replies.{ReplyWithData}
use Rattle.device_meaning.specs.Draining.{Drains, HasDrained, lowest_run, replies_to_turns, state_after_turns}
use Rattle.device_meaning.specs.Events.{AreEvents, AreOccurrencesOf, HasServed, Occurrence, replies_to, state_after}
use Rattle.device_meaning.specs.State.{State}
use Rattle.device_events.specs.declared.event.Event.{Event}
use Rattle.device_events.specs.ToldEvents as told

-- each event has one reply
abbrev pub OneReplyEach : Judge → Type 0
OneReplyEach judge = (events : List Occurrence) (s : State) → length (replies_to judge events s) ≡ length events

-- turns of these runs, as events; a turn asks for no memory
abbrev pub turn_events : List ℕ → List Occurrence
turn_events runs = map (λ run. record { event = told.Turned run; starved = false }) runs

module _ (judge : Judge) where
  -- the later events happen to what the earlier ones leave
  pub record AreInParts (first later : List Occurrence) (s : State) : Type 0 where
    pub replies : replies_to judge (first ++ later) s
        ≡ replies_to judge first s ++ replies_to judge later (state_after judge first s)
    pub state : state_after judge (first ++ later) s ≡ state_after judge later (state_after judge first s)

  -- the turns of a device that is drained are events
  pub record AreTurns (runs : List ℕ) (s : State) : Type 0 where
    pub replies : replies_to_turns runs s ≡ replies_to judge (turn_events runs) s
    pub state : state_after_turns runs s ≡ state_after judge (turn_events runs) s

  -- events were done, and then turns of the lowest active run of then, until no run was left; `took` says of the
  -- replies to both, in order, that they were taken
  pub record HasServedAndDrained (events : List Event) (old new : State) (took : List ReplyWithData → Type 0) : Type 0 where
    pub occurrences : List Occurrence
    pub are : AreOccurrencesOf events occurrences
    pub runs : List ℕ
    pub drains : Drains (state_after judge occurrences old) runs
    pub state : new ≡ state_after judge (occurrences ++ turn_events runs) old
    pub replies : took (replies_to judge (occurrences ++ turn_events runs) old)
    pub none_left : lowest_run new ≡ None

-- two lists of events whose data is bytes are, joined, such a list
abbrev pub EventsJoin : Type 0
EventsJoin = (first later : List Occurrence) → AreEvents first → AreEvents later → AreEvents (first ++ later)

-- events can be served in parts
abbrev pub EventsInParts : Judge → Type 0
EventsInParts judge = (first later : List Occurrence) (s : State) → AreInParts judge first later s

-- a device that did some events and then others has done both, one behind the other
abbrev pub ServedInParts : {T : Type 0} → Judge → (T → T → List ReplyWithData → Type 0) → Type 0
ServedInParts {T = T} judge took =
    (first later : List Event) (old between new : State) (before then after : T)
    → HasServed judge first old between (took before then) → HasServed judge later between new (took then after)
    → HasServed judge (first ++ later) old new (took before after)

-- draining is to do turns, as events
abbrev pub DrainedByTurns : Judge → Type 0
DrainedByTurns judge = (runs : List ℕ) (s : State) → AreTurns judge runs s

-- what drains a state is determined
abbrev pub DrainedInOneWay : Type 0
DrainedInOneWay = (s : State) (runs others : List ℕ) → Drains s runs → Drains s others → runs ≡ others

-- a device that is served events and then drained has done them and all that they began
abbrev pub ServedAndDrained : {T : Type 0} → Judge → (T → T → List ReplyWithData → Type 0) → Type 0
ServedAndDrained {T = T} judge took =
    (events : List Event) (old between new : State) (before then after : T)
    → HasServed judge events old between (took before then) → HasDrained between new (took then after)
    → HasServedAndDrained judge events old new (took before after)
