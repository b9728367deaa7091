-- Lists of events (profile): the replies to them and the state behind them, and that a device did them.
use Rattle.std.specs.Prelude.{ℕ, Bool, ◌≡◌, ◌≤◌, ◌-◌, List, [], ◌∷◌, length, map, take}
use Rattle.std.specs.List.{AllByRecursion, fold}
use Rattle.common_definitions.specs.Bytes.{AreBytes}
use Rattle.device_meaning.specs.Judging.{Judge}
use Rattle.device_events.specs.Replies.{ReplyWithData}
use Rattle.device_meaning.specs.Happenings.{happens}
use Rattle.device_meaning.specs.State.{State}
use Rattle.device_events.specs.declared.event.Event.{Event}
use Rattle.device_events.specs.ToldEvents.{ToldEvent, told_of}
use Rattle.device_events.specs.ToldEvents as told

-- an event, and whether memory is refused while it is done
pub record Occurrence : Type 0 where
  pub event : ToldEvent
  pub starved : Bool

-- the data beside an entry is bytes
abbrev pub CarriesBytes : ToldEvent → Type 0
CarriesBytes (told.Submitted queue entry input) = AreBytes input
CarriesBytes (told.Turned run) = Unit {0}
CarriesBytes (told.Faulted zone state) = Unit {0}

-- events whose data, where they carry some, is bytes
abbrev pub AreEvents : List Occurrence → Type 0
AreEvents events = AllByRecursion (λ o. CarriesBytes o.event) events

module _ (judge : Judge) where
  -- the replies to events, in order
  abbrev pub replies_to : List Occurrence → State → List ReplyWithData
  replies_to [] s = []
  replies_to (o ∷ os) s = (happens judge s o.starved o.event).reply ∷ replies_to os (happens judge s o.starved o.event).state

  -- the state after events
  abbrev pub state_after : List Occurrence → State → State
  state_after events s = fold (λ before o. (happens judge before o.starved o.event).state) s events

-- ---- what a device does with events

-- these are occurrences of these events, in order; at which of them memory is refused is left open, since no definition
-- can say when there is none
abbrev pub AreOccurrencesOf : List Event → List Occurrence → Type 0
AreOccurrencesOf events occurrences = map (λ o. o.event) occurrences ≡ map told_of events

module _ (judge : Judge) where
  -- one event led from one state to the other, with this reply
  pub record HasHappened (e : Event) (old new : State) (reply : ReplyWithData) : Type 0 where
    pub starved : Bool
    pub state : new ≡ (happens judge old starved (told_of e)).state
    pub replied : reply ≡ (happens judge old starved (told_of e)).reply

  -- events were done; `took` says of their replies that they were taken
  pub record HasServed (events : List Event) (old new : State) (took : List ReplyWithData → Type 0) : Type 0 where
    pub occurrences : List Occurrence
    pub are : AreOccurrencesOf events occurrences
    pub state : new ≡ state_after judge occurrences old
    pub replies : took (replies_to judge occurrences old)

  -- so many events are done, and the reply to the last of them was refused; those before it were taken
  pub record HasStopped (events : List Event) (old new : State) (took : List ReplyWithData → Type 0) (done : ℕ) : Type 0 where
    pub some : 1 ≤ done
    pub within : done ≤ length events
    pub occurrences : List Occurrence
    pub are : AreOccurrencesOf (take done events) occurrences
    pub state : new ≡ state_after judge occurrences old
    pub replies : took (replies_to judge (take (done - 1) occurrences) old)
