-- Events as they are told: their numbers and bytes, and not where these lie in memory.
use Rattle.std.specs.Prelude.{ℕ, List}
use Rattle.zone_state.specs.declared.state.FaultState.{FaultState}
use Rattle.device_events.specs.declared.event.Event.{Event}
use Rattle.device_events.specs.declared.event.Event.TheVariants as event

-- what an event tells: the queue that an entry is submitted to, the entry's bytes (NVMe Base 2.0, 3.3.3.1) and those of the data beside
-- it; the number of the run that has a turn; or that of the zone that has a fault, and which state it falls into
pub data ToldEvent : Type 0 where
  Submitted : (queue : ℕ) (entry input : List ℕ) → ToldEvent
  Turned : (run : ℕ) → ToldEvent
  Faulted : (zone : ℕ) (state : FaultState) → ToldEvent

-- an event without where its data lies in memory
abbrev pub told_of : Event → ToldEvent
told_of (event.Submit queue entry input) = Submitted queue entry input.items
told_of (event.Turn run) = Turned run
told_of (event.Fault zone state) = Faulted zone state
