-- What holds of a served target.
use Rattle.std.specs.Prelude.{ℕ, ◌≡◌, List, map, None, Some, slice_index_or}
use Rattle.std.specs.Option.{option_map}
use Rattle.device_meaning.specs.Events.{HasServed}
use Rattle.device_meaning.specs.Judging.{interval_judge}
use Rattle.device_meaning.specs.State.{Place, State, place_at}
use Rattle.image_store.specs.Namespace.{ZonedNamespace}
use Rattle.tcp_admin.specs.declared.subsystem.NamespaceFormat.{NamespaceFormat}
use Rattle.tcp_admin.specs.declared.subsystem.Subsystem.{Subsystem}
use Rattle.tcp_target.specs.Apart.{HasQueuesApart}
use Rattle.tcp_device.specs.Deeds.{AreDone, Deed, Does, events_of, replies_of}
use Rattle.tcp_device.specs.State.{CommandOfRun, ServedState, begun, begun_on}

-- whatever is done with a served target, its device did just the events that these deeds are, and what hosts are answered is made of
-- its replies to these, each of them, in order: so what is proved of lists of events and of the replies to them holds of a device that
-- hosts reach over a network
abbrev pub DeedsAreEvents : Type 0
DeedsAreEvents =
    (deeds : List Deed) (old new : ServedState) (done : AreDone deeds old new)
    → HasServed interval_judge (events_of deeds old new done) old.device new.device
    (λ replies. replies ≡ replies_of deeds old new done)

-- each queue has a connection of its own, in every state that deeds lead to from the beginning
abbrev pub QueuesAreApart : Type 0
QueuesAreApart =
    (device : State) (subsystem : Subsystem) (format : NamespaceFormat) (deeds : List Deed) (new : ServedState)
    → AreDone deeds (begun_on device subsystem format) new → HasQueuesApart new.target

-- ---- each run completes the command that started it

-- the command of a run, as the device has it: its queue has the connection's number
abbrev pub command_of : Place → CommandOfRun
command_of place = record { connection = place.queue; command = place.cid }

-- each command that is pending is that of the device's run of its number; runs that were kept with the device have none
abbrev pub HaveTheirRuns : ServedState → Type 0
HaveTheirRuns s =
    (run : ℕ) (command : CommandOfRun) → slice_index_or s.pending run None ≡ Some command
    → option_map command_of (place_at s.device run) ≡ Some command

-- the commands that are pending are those of all active runs of the device
abbrev pub Agrees : ServedState → Type 0
Agrees s = s.pending ≡ map (option_map command_of) s.device.places

pub record RunsHaveTheirCommands : Type 0 where
  pub begin : (device : State) (subsystem : Subsystem) (format : NamespaceFormat) → HaveTheirRuns (begun_on device subsystem format)
  pub stay : (deed : Deed) (old new : ServedState) → Does deed old new → HaveTheirRuns old → HaveTheirRuns new
  -- no other run is active where none was kept
  pub begin_all : (namespace : ZonedNamespace) (subsystem : Subsystem) (format : NamespaceFormat)
      → Agrees (begun namespace subsystem format)
  pub stay_all : (deed : Deed) (old new : ServedState) → Does deed old new → Agrees old → Agrees new
