-- What a file stands for, and what of a device is kept in it.
use Rattle.std.specs.Prelude.{ℕ, List}
use Rattle.stored_file.specs.File.{FileState}
use Rattle.durable_machine.specs.Files.{IsDurable, IsInBase, IsItsState, IsOldOrStands, IsState}
use Rattle.durable_machine.specs.Pieces.{IsFound}
use Rattle.durable_machine.specs.Refused.{IsRefused, Refuses}
use Rattle.durable_machine.specs.Restart.{IsRestarted as IsRestartedMachine, KeepsRestarted as KeepsRestartedMachine, LeavesFound as LeavesFoundMachine, MayBeLeft as MayBeLeftOfMachine}
use Rattle.durable_machine.specs.Waiting.{IsCommittedBut as IsCommittedButMachine, IsEither as IsEitherMachine}
use Rattle.durable_machine.specs.declared.fault.Fault.{Fault}
use Rattle.device_meaning.specs.State.{State}
use Rattle.durable_device.specs.Machine.{IsDeviceBase, next_state}

-- the file stands for a device in this state: its base's, led there by the frames behind it
abbrev pub StandsFor : List ℕ → State → Type 0
StandsFor = IsState IsDeviceBase next_state

-- and in no other
abbrev pub StandsForIt : List ℕ → State → Type 0
StandsForIt = IsItsState IsDeviceBase next_state

-- an earlier program may have left these bytes on the disk, of a file of which those are read: the same; or, where they stand for a
-- device, the same but for the gate of its last batch
abbrev pub MayBeLeft : List ℕ → List ℕ → Type 0
MayBeLeft = MayBeLeftOfMachine IsDeviceBase next_state

-- so it is of a file that was opened
abbrev pub IsRestarted : FileState → Type 0
IsRestarted = IsRestartedMachine IsDeviceBase next_state

-- this was found in a file: the device for which it stands, where its batches end, and the last one's gate
abbrev pub IsFoundIn : ℕ → ℕ → List ℕ → List ℕ → State → Type 0
IsFoundIn = IsFound IsDeviceBase next_state

-- a crash at any moment leaves what an earlier program may have left, or a file that has P; and where all of the file was on the disk, one
-- that has P
abbrev pub LeavesFound : FileState → FileState → (List ℕ → Type 0) → Type 0
LeavesFound = LeavesFoundMachine IsDeviceBase next_state

-- so it is with a file that stands for what the old one does
abbrev pub KeepsRestarted : FileState → FileState → Type 0
KeepsRestarted = KeepsRestartedMachine IsDeviceBase next_state

-- a crash might have left the file before, or it stands for a device in this state
abbrev pub IsOldOrStandsFor : FileState → State → List ℕ → Type 0
IsOldOrStandsFor = IsOldOrStands IsDeviceBase next_state

-- the device is in the state that the file stands for, which is at rest, with its gate at this offset, and all of it on the disk
abbrev pub IsKept : State → ℕ → FileState → Type 0
IsKept = IsDurable IsDeviceBase next_state

-- a device is kept in the file so, and the events that wait lead from it to this one, with memory given to each
abbrev pub IsCommittedBut : List ℕ → State → ℕ → FileState → Type 0
IsCommittedBut = IsCommittedButMachine IsDeviceBase next_state

-- the file stands for one of two devices
abbrev pub IsEither : State → State → List ℕ → Type 0
IsEither = IsEitherMachine IsDeviceBase next_state

-- the device is kept in the file, and the base alone stands for it: the journal after it is empty
abbrev pub IsKeptInBase : State → ℕ → FileState → Type 0
IsKeptInBase = IsInBase IsDeviceBase next_state

-- a file is refused for what it has, and nothing of it changes; or memory was wanting, or the disk has failed
abbrev pub RefusesFile : FileState → FileState → Fault → Type 0
RefusesFile = Refuses IsDeviceBase next_state

-- bytes are refused for this: they stand for no device; or memory was wanting
abbrev pub RefusesBytes : List ℕ → Fault → Type 0
RefusesBytes = IsRefused IsDeviceBase next_state
