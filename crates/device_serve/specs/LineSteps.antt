-- Lines and texts that are served one after another: what private functions hand on to each other.
use Rattle.std.specs.Prelude.{ℕ, Bool, ◌≡◌, ◌⊎◌, List, [], ◌∷◌, ◌++◌, length, map, None, Ok}
use Rattle.std.specs.Str.Lines.{lines}
use Rattle.device_events.specs.ToldEvents.{told_of}
use Rattle.device_events.specs.declared.event.Event.{Event}
use Rattle.device_meaning.specs.Events.{HasServed}
use Rattle.device_meaning.specs.Judging.{interval_judge}
use Rattle.device_meaning.specs.State.{State}
use Rattle.event_text.specs.CommandFile.{events_from, events_in, line_told}
use Rattle.device_serve.specs.LineStream.{Begins, Does, HasAnswered, IsEnded, Untold, counted}
use Rattle.device_serve.specs.declared.fault.ServeFault.{ServeFault}
use Rattle.device_serve.specs.declared.fault.ServeFault.TheVariants as fault

-- nothing was done, and nothing answered
abbrev pub DoesNothing : State → State → List ℕ → List ℕ → Type 0
DoesNothing old new before after = (new ≡ old) × (after ≡ before)

-- an event was done, or nothing was
abbrev pub IsPerhapsDone : Event → State → State → Type 0
IsPerhapsDone e old new = (new ≡ old) ⊎ HasServed interval_judge (e ∷ []) old new Untold

-- an event wasn't done, or it was begun
abbrev pub StopsAt : Bool → Event → State → State → List ℕ → List ℕ → Type 0
StopsAt drains e old new before after = DoesNothing old new before after ⊎ Begins drains e old new before after

-- the event of a line was done, where it has one
pub record ServesLine (drains : Bool) (line : List ℕ) (old new : State) (before after : List ℕ) : Type 0 where
  pub events : List Event
  pub told : events_from 1 (line ∷ []) ≡ Ok (map told_of events)
  pub done : Does drains events old new (HasAnswered before after)

-- the event of a line was begun
pub record BeginsLine (drains : Bool) (line : List ℕ) (old new : State) (before after : List ℕ) : Type 0 where
  pub event : Event
  pub told : events_from 1 (line ∷ []) ≡ Ok (told_of event ∷ [])
  pub begun : Begins drains event old new before after

-- why the line with a number wasn't served
abbrev pub FailsAt : Bool → List ℕ → ℕ → ServeFault → State → State → List ℕ → List ℕ → Type 0
FailsAt drains line number (fault.Line told why) old new before after =
    (told ≡ number) × (line_told line ≡ None) × DoesNothing old new before after
FailsAt drains line number fault.Memory old new before after =
    DoesNothing old new before after ⊎ BeginsLine drains line old new before after
FailsAt drains line number why old new before after = ⊥

-- the events of a text were done, before which so many lines stand, and before what follows it so many
pub record ServesText (drains : Bool) (text : List ℕ) (before next : ℕ) (old new : State) (first after : List ℕ) : Type 0 where
  pub events : List Event
  pub told : events_in text ≡ Ok (map told_of events)
  pub counted_is : next ≡ counted before (length (lines text))
  pub done : Does drains events old new (HasAnswered first after)

-- of what had come, a text of ended lines was served, and this is left
pub record ServesPiece (drains : Bool) (come left : List ℕ) (before next : ℕ) (old new : State) (first after : List ℕ) : Type 0 where
  pub text : List ℕ
  pub parts : come ≡ text ++ left
  pub ended : IsEnded text
  pub served : ServesText drains text before next old new first after
