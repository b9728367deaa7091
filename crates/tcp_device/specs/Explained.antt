-- What the law of a loop comes to, in the words of the device that is kept in a file.
use Rattle.std.specs.Prelude.{ℕ, ◌≡◌, Bool, true, false, List, ◌++◌}
use Rattle.std.specs.List.{AllByRecursion}
use Rattle.stored_file.specs.File.{MayLeave}
use Rattle.stored_file.specs.Calls.{Call, told_of}
use Rattle.device_meaning.specs.Events.{HasServed}
use Rattle.device_meaning.specs.Judging.{interval_judge}
use Rattle.device_meaning.specs.State.{State}
use Rattle.durable_device.specs.Kept.{MayBeLeft, StandsFor}
use Rattle.tcp_admin.specs.declared.subsystem.NamespaceFormat.{NamespaceFormat}
use Rattle.tcp_admin.specs.declared.subsystem.Subsystem.{Subsystem}
use Rattle.tcp_device.specs.Deeds.{AreDone, Deed, Sent, events_of, replies_of}
use Rattle.tcp_device.specs.Order.{HasQueue, IsInOrder}
use Rattle.tcp_device.specs.State.{ServedState, begun_on}
use Rattle.tcp_loop.specs.Disk.{calls_of}
use Rattle.tcp_loop.specs.Law.{IsExplained}
use Rattle.tcp_loop.specs.Trace.{Trace}
use Rattle.tcp_device.specs.Answered.{RoundsAnswer}
use Rattle.tcp_device.specs.LoopMeaning.{deeds_of, in_memory, kept_in_file}

-- the device did just the events that these deeds are, in order, and gave the replies of which hosts' answers are made
abbrev pub DidEvents : (deeds : List Deed) (old new : ServedState) → AreDone deeds old new → Type 0
DidEvents deeds old new done =
    HasServed interval_judge (events_of deeds old new done) old.device new.device (λ replies. replies ≡ replies_of deeds old new done)

-- were no bytes sent to a host by it?
abbrev pub is_silent : Deed → Bool
is_silent (Sent number count) = false
is_silent deed = true

-- deeds are some, and others after them by which nothing was sent; and a file stands for the device that did just the events of the first
pub record HasAllAnswered (c : List ℕ) (deeds : List Deed) (old new : ServedState) : Type 0 where
  pub later : List Deed
  pub earlier : List Deed
  pub parts : deeds ≡ later ++ earlier
  pub silent : AllByRecursion (λ deed. is_silent deed ≡ true) later
  pub between : ServedState
  pub first : AreDone earlier old between
  pub last : AreDone later between new
  pub did : DidEvents earlier old between first
  pub stands : StandsFor c between.device

-- as long as a connection has an I/O queue, the device gets the commands of it in the order of their capsules, each once
abbrev pub AreInOrder : List Deed → ServedState → ServedState → Type 0
AreInOrder deeds old new =
    (later earlier : List Deed) (between : ServedState) → deeds ≡ later ++ earlier → AreDone earlier old between
    → (done : AreDone later between new) (number id queue : ℕ) → HasQueue number id queue later between new done
    → IsInOrder number later between new done

-- of a target before a device, without connections at the beginning: what explains a trace is done by the device, in order, and whatever
-- a crash leaves has all that was answered; and each round answers hosts
pub record DeviceIsExplained (opened : List Call) (old : ServedState) (trace : Trace) : Type 0 where
  pub explained : IsExplained kept_in_file opened old trace
  pub done : AreDone (deeds_of explained.deeds) old explained.new
  pub did : DidEvents (deeds_of explained.deeds) old explained.new done
  pub in_order : AreInOrder (deeds_of explained.deeds) old explained.new
  pub answered : RoundsAnswer explained.attended.rounds
  pub left : (c : List ℕ) → MayLeave (told_of MayBeLeft (calls_of opened trace)) c
      → HasAllAnswered c (deeds_of explained.deeds) old explained.new

abbrev pub DevicesAreExplained : Type 0
DevicesAreExplained =
    (device : State) (subsystem : Subsystem) (format : NamespaceFormat) (opened : List Call) (trace : Trace)
    → IsExplained kept_in_file opened (begun_on device subsystem format) trace
    → DeviceIsExplained opened (begun_on device subsystem format) trace

-- of a device in memory alone: the same, but of what a crash leaves, which is the image that was saved last
pub record MemoryIsExplained (opened : List Call) (old : ServedState) (trace : Trace) : Type 0 where
  pub explained : IsExplained in_memory opened old trace
  pub done : AreDone (deeds_of explained.deeds) old explained.new
  pub did : DidEvents (deeds_of explained.deeds) old explained.new done
  pub in_order : AreInOrder (deeds_of explained.deeds) old explained.new
  pub answered : RoundsAnswer explained.attended.rounds

abbrev pub MemoriesAreExplained : Type 0
MemoriesAreExplained =
    (device : State) (subsystem : Subsystem) (format : NamespaceFormat) (opened : List Call) (trace : Trace)
    → IsExplained in_memory opened (begun_on device subsystem format) trace
    → MemoryIsExplained opened (begun_on device subsystem format) trace

-- a target before a device, to which no host has come yet
pub record HasNoConnections (s : ServedState) : Type 0 where
  pub subsystem : Subsystem
  pub format : NamespaceFormat
  pub begun : s ≡ begun_on s.device subsystem format
