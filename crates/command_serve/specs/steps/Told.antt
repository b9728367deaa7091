-- What the user is told of a file that isn't opened, and of a stream that is served.
use Rattle.std.specs.Prelude.{◌≡◌, List, ℕ, Result, Ok, Err}
use Rattle.stored_file.specs.declared.stored_file.FileError.{FileError}
use Rattle.stored_file.specs.declared.stored_file.FileError.TheVariants.{Memory, NoRoom, Failed}
use Rattle.durable_machine.specs.declared.fault.Fault.{Fault}
use Rattle.durable_machine.specs.declared.fault.Fault.TheVariants.{Unreadable, Damaged, Undone, OfFile}
use Rattle.durable_device.specs.declared.durable_device.Folding.{Folding}
use Rattle.durable_device.specs.declared.durable_device.Folding.TheVariants as folding
use Rattle.device_serve.specs.declared.fault.ServeFault.{ServeFault}
use Rattle.command_files.specs.declared.file_cause.FileCause.TheVariants as cause
use Rattle.command_files.specs.declared.failure.Failure.{Failure}
use Rattle.command_files.specs.declared.journal_fault.JournalFault.{JournalFault}
use Rattle.command_files.specs.declared.journal_fault.JournalFault.TheVariants as journal
use Rattle.command_files.specs.declared.failure.Failure.TheVariants.{CannotRead, CannotWrite, ImageRefused, JournalRefused, NoMemory}
use Rattle.command_images.specs.Devices.{CountsBatches, IsFrontFault}
use Rattle.command_serve.specs.Served.{IsToldOf}

-- a disk that fails, or has no room
abbrev pub TellsError : FileError → List ℕ → Failure → Type 0
TellsError Memory path NoMemory = Unit {0}
TellsError NoRoom path (CannotWrite name why) = (name.now ≡ path) × (why ≡ cause.NoRoom)
TellsError Failed path (CannotWrite name cause) = name.now ≡ path
TellsError error path _ = ⊥

-- a journal that isn't folded
abbrev pub TellsUnfolded : Result Folding FileError → List ℕ → Failure → Type 0
TellsUnfolded (Ok folding.NoRoom) path (CannotWrite name why) = (name.now ≡ path) × (why ≡ cause.NoNewFile)
TellsUnfolded (Ok folding.NoMemory) path NoMemory = Unit {0}
TellsUnfolded (Ok came) path _ = ⊥
TellsUnfolded (Err error) path failure = TellsError error path failure

-- a file that can't be read, or is no image
abbrev pub TellsUnread : List ℕ → Failure → Type 0
TellsUnread path (ImageRefused name fault) = name.now ≡ path
TellsUnread path (CannotRead name cause) = name.now ≡ path
TellsUnread path NoMemory = Unit {0}
TellsUnread path _ = ⊥

-- a journal with this fault at a byte
abbrev pub TellsDamage : JournalFault → ℕ → List ℕ → Failure → Type 0
TellsDamage fault place path (JournalRefused name at said) = (name.now ≡ path) × (at ≡ place) × (said ≡ fault)
TellsDamage fault place path _ = ⊥

-- a journal of these bytes that is damaged at a byte, with how many of its batches are whole, or without
abbrev pub TellsDamaged : List ℕ → ℕ → List ℕ → Failure → Type 0
TellsDamaged bytes place path (JournalRefused name at said) = (name.now ≡ path) × (at ≡ place) × CountsBatches said bytes
TellsDamaged bytes place path _ = ⊥

-- a journal of these bytes, with its fault at the front
abbrev pub TellsFront : List ℕ → List ℕ → Failure → Type 0
TellsFront bytes path (JournalRefused name at said) = (name.now ≡ path) × (at ≡ 0) × IsFrontFault said bytes
TellsFront bytes path _ = ⊥

-- a journal of these bytes that isn't opened; one without a base of this device has its fault at the front
abbrev pub TellsFault : List ℕ → Fault → List ℕ → Failure → Type 0
TellsFault bytes Unreadable path failure = TellsFront bytes path failure
TellsFault bytes (Damaged place) path failure = TellsDamaged bytes place path failure
TellsFault bytes (Undone place) path failure = TellsDamage journal.Undone place path failure
TellsFault bytes (OfFile error) path failure = TellsError error path failure

-- of a stream nothing, where it ended well; else why it stopped
abbrev pub IsTold : List ℕ → Result (Unit {0}) ServeFault → Result (Unit {0}) Failure → Type 0
IsTold path (Ok done) (Ok told) = Unit {0}
IsTold path (Ok done) (Err failure) = ⊥
IsTold path (Err why) (Ok told) = ⊥
IsTold path (Err why) (Err failure) = IsToldOf path why failure
