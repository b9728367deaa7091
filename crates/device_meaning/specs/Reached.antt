-- The states that events leave, from one on that a device may begin with.
use Rattle.std.specs.Prelude.{ℕ, ◌≡◌, List}
use Rattle.device_meaning.specs.Beginning.{MayBegin}
use Rattle.device_meaning.specs.Judging.{Judge}
use Rattle.image_store.specs.Namespace.{ZonedNamespace, IsNamespace}
use Rattle.device_meaning.specs.Draining.{state_after_turns}
use Rattle.device_meaning.specs.Events.{AreEvents, Occurrence, state_after}
use Rattle.device_meaning.specs.State.{State, new_state}

module _ (judge : Judge) where
  -- a state that events leave, whose data is bytes, of a device that began with what one may begin with
  pub record IsReached (s : State) : Type 0 where
    pub first : State
    pub events : List Occurrence
    pub begins : MayBegin judge first
    pub bytes : AreEvents events
    pub leaves : s ≡ state_after judge events first

-- what a device may begin with is such a state
abbrev pub BeginningIsReached : Judge → Type 0
BeginningIsReached judge = (s : State) → MayBegin judge s → IsReached judge s

-- and so is a device that was just made of a namespace
abbrev pub NewIsReached : Judge → Type 0
NewIsReached judge = (ns : ZonedNamespace) → IsNamespace ns → IsReached judge (new_state ns)

-- events lead from each to another
abbrev pub EventsKeepReached : Judge → Type 0
EventsKeepReached judge =
    (s : State) (events : List Occurrence) → IsReached judge s → AreEvents events → IsReached judge (state_after judge events s)

-- and so do turns, since they are events (it follows from `DrainedByTurns` and `EventsKeepReached`)
abbrev pub TurnsKeepReached : Judge → Type 0
TurnsKeepReached judge = (s : State) (runs : List ℕ) → IsReached judge s → IsReached judge (state_after_turns runs s)
