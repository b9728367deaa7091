-- What a device does for which C makes the calls, where frames come.
use Rattle.std.specs.Prelude.{ℕ, ◌≡◌, ◌⊎◌, false, List, [], Option, Some, None}
use Rattle.stored_file.specs.File.{FileState, LeavesOnly}
use Rattle.handed_file.specs.declared.handed_file.HandedFile.{HandedFile}
use Rattle.image_store.specs.Namespace.{ZonedNamespace}
use Rattle.durable_machine.specs.declared.in_file.InFile.{InFile}
use Rattle.durable_machine.specs.declared.journal.Journal.{Journal}
use Rattle.device_meaning.specs.State.{State}
use Rattle.durable_device.specs.Kept.{IsKept, StandsFor}
use Rattle.device_serve.specs.FrameStream.{Does, Ends, FrameReader, IsReady, Stops, reader}
use Rattle.device_serve.specs.Rounds.{Doing, Ending, IsAfterRounds, ServesStream, Site, Stopping, StopsServing, on}
use Rattle.device_serve.specs.declared.fault.ServeFault.{ServeFault}
use Rattle.device_serve.specs.declared.frames.FrameCodec.{FrameCodec}
use Rattle.device_serve.specs.declared.keep.KeepsNothing.{KeepsNothing}
use Rattle.device_serve.specs.declared.kept.KeptDevice.{KeptDevice}
use Rattle.device_library.specs.Devices.{journal_in, state_in}
use Rattle.device_library.specs.Files.{promised_of}

-- ---- frames

abbrev pub Frames : Type 0
Frames = FrameCodec KeepsNothing

-- what reads them
abbrev pub reader_of : Frames → FrameReader KeepsNothing
reader_of codec = reader codec.session codec.turns codec.ends_runs codec.keeper

-- a device in a journal is on the disk as it is: a save is answered at once, and no image is kept
abbrev pub KeepsNone : KeepsNothing → KeepsNothing → ZonedNamespace → Type 0
KeepsNone old new namespace = Unit {0}

abbrev pub Stays : KeepsNothing → KeepsNothing → Type 0
Stays old new = Unit {0}

-- what they ask for is done and answered so,
abbrev pub DoesFrames : Doing Frames
DoesFrames old s bytes new t answers = Does KeepsNone Stays (reader_of old) s [] bytes (reader_of new) t answers

-- they end,
abbrev pub EndsFrames : Ending Frames
EndsFrames old s new t answers = Ends KeepsNone Stays (reader_of old) s [] (reader_of new) t answers

-- or it stops
abbrev pub StopsAtFrames : Stopping Frames
StopsAtFrames old s bytes left new t answers why = Stops KeepsNone Stays (reader_of old) s [] bytes left (reader_of new) t answers why

-- nothing has come of the next frame, and no turns are given but those that frames ask for
pub record IsBetweenFrames (codec : Frames) : Type 0 where
  pub none : codec.session.pending ≡ []
  pub healthy : codec.session.fault ≡ None
  pub turns : codec.turns ≡ 0
  pub ends_runs : codec.ends_runs ≡ false
  pub ready : IsReady (λ keeper. Unit {0}) (reader_of codec) codec.output.items

-- ---- a device

-- what is known of its file once C has made each call that it was handed, as long as none was refused; and that all of it is there then
abbrev pub told : Journal HandedFile → FileState
told journal = promised_of journal.file

abbrev pub settled : State → Journal HandedFile → Type 0
settled device journal = IsKept device journal.gate (told journal)

-- a device with what reads the frames, and the frames of the replies
abbrev pub Handed : Type 0
Handed = Site Frames (Journal HandedFile)

abbrev pub site : KeptDevice (InFile HandedFile) → Frames → List ℕ → Handed
site device codec answer = on codec (state_in device) (Some answer) (journal_in device)

-- a file stands for a device after the first of some rounds, or for this one
abbrev pub IsAfterSomeOr : List (List ℕ) → Handed → State → List ℕ → Type 0
IsAfterSomeOr pieces old device file = IsAfterRounds DoesFrames told settled pieces old file ⊎ StandsFor file device

-- all that frames ask for is done and answered, in rounds. While C makes the calls for it, a crash leaves the device after the
-- first of them
pub record ServesFrames (bytes : List ℕ) (old new : Handed) : Type 0 where
  pub serves : ServesStream DoesFrames told settled EndsFrames (Some bytes) old new
  pub moments : LeavesOnly (told old.disk) (told new.disk) (IsAfterSomeOr serves.served.pieces old new.state)

-- what the first of the bytes ask for is done and answered, in rounds, and then it stops. A crash leaves the device after the first of
-- them, or as it is now
pub record StopsFrames (bytes : List ℕ) (old new : Handed) (why : ServeFault) : Type 0 where
  pub left : Option (List ℕ)
  pub stops : StopsServing DoesFrames told settled EndsFrames StopsAtFrames (Some bytes) left old new why
  pub moments : LeavesOnly (told old.disk) (told new.disk) (IsAfterSomeOr stops.off.served.pieces old new.state)
