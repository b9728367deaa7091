-- What files stand for, and what comes back of them, in the device's words.
use Rattle.std.specs.Prelude.{◌≡◌, ℕ, false, List, map, Some}
use Rattle.std.specs.List.{AllByRecursion, filter_map}
use Rattle.common_definitions.specs.Bytes.{AreBytes}
use Rattle.stored_file.specs.File.{FileState, MayLeave}
use Rattle.durable_machine.specs.Journal.{StandsFor as HasJournal}
use Rattle.durable_machine.specs.Files.{IsFront, joined}
use Rattle.device_events.specs.ToldEvents.{ToldEvent}
use Rattle.device_meaning.specs.Beginning.{MayBegin}
use Rattle.device_meaning.specs.Events.{Occurrence, state_after}
use Rattle.device_meaning.specs.Judging.{interval_judge}
use Rattle.device_meaning.specs.Reached.{IsReached}
use Rattle.device_meaning.specs.State.{State}
use Rattle.durable_device.specs.FrameEvents.{IsFrameOf, frame_event}
use Rattle.durable_device.specs.Kept.{StandsFor, StandsForIt}
use Rattle.durable_device.specs.Machine.{IsDeviceBase, next_state}

-- frames tell events: that of an event tells it, and bytes tell an event only where they are its frame
pub record FramesTellEvents : Type 0 where
  pub told : (e : ToldEvent) (bytes : List ℕ) → IsFrameOf e bytes → frame_event bytes ≡ Some e
  pub only : (e : ToldEvent) (bytes : List ℕ) → AreBytes bytes → frame_event bytes ≡ Some e → IsFrameOf e bytes

-- a file has at its front the base of a device in this state, in whole sectors, and behind it a journal of these batches of frames
pub record HasFrames (file : List ℕ) (first : State) (batches : List (List (List ℕ))) : Type 0 where
  pub front : List ℕ
  pub begins : IsFront IsDeviceBase next_state front first
  pub journal : HasJournal front batches file

-- these are occurrences of the events that frames tell, in order; at which of them memory is refused is left open
abbrev pub AreTold : List (List ℕ) → List Occurrence → Type 0
AreTold frames occurrences = map (λ o. o.event) occurrences ≡ filter_map frame_event frames

-- A device in this state is led to it by the events in a file, with memory given to each, from the state that the file's base stands for.
-- In that one a device may begin.
pub record ComesOf (file : List ℕ) (s : State) : Type 0 where
  pub first : State
  pub batches : List (List (List ℕ))
  pub has : HasFrames file first batches
  pub begins : MayBegin interval_judge first
  pub occurrences : List Occurrence
  pub told : AreTold (joined batches) occurrences
  pub given : AllByRecursion (λ o. o.starved ≡ false) occurrences
  pub state : s ≡ state_after interval_judge occurrences first
  pub reached : IsReached interval_judge s

-- what a file of bytes stands for comes of the events in it
abbrev pub FilesAreReached : Type 0
FilesAreReached = (file : List ℕ) (s : State) → AreBytes file → StandsFor file s → ComesOf file s

-- of each file that a crash leaves now, a device in this state is opened
abbrev pub ComesBack : FileState → State → Type 0
ComesBack file s = (left : List ℕ) (opened : State) → MayLeave file left → StandsForIt left opened → opened ≡ s
