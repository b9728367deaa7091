-- The failures that faults of loading become.
use Rattle.std.specs.Prelude.{◌≡◌, ◌≢◌, ◌⊎◌, ℕ, List}
use Rattle.std.specs.Borrow.{Bor}
use Rattle.image_text.specs.declared.fault.LoadFault.{LoadFault}
use Rattle.image_text.specs.declared.fault.LoadFault.TheVariants.{Magic, Stream, Memory, Truncated}
use Rattle.device_meaning.specs.State.{State, new_state}
use Rattle.durable_machine.specs.declared.fault.Fault.{Fault}
use Rattle.durable_machine.specs.declared.fault.Fault.TheVariants.{Damaged, OfFile, Undone, Unreadable}
use Rattle.durable_device.specs.Kept.{RefusesBytes}
use Rattle.command_files.specs.declared.failure.Failure.{Failure}
use Rattle.command_files.specs.declared.journal_fault.JournalFault.{JournalFault}
use Rattle.command_files.specs.declared.journal_fault.JournalFault.TheVariants as journal
use Rattle.command_files.specs.declared.file_cause.FileCause.TheVariants.{Other}
use Rattle.command_files.specs.declared.failure.Failure.TheVariants.{CannotRead, DeviceRefused, ImageRefused, JournalRefused, NoMemory}
use Rattle.command_images.specs.Devices.{CountsBatches, IsFrontFault}

-- the fault, but where the stream or memory failed, which says nothing of the file
abbrev pub told_of_image : Bor (List ℕ) → LoadFault → Failure
told_of_image path Stream = CannotRead path Other
told_of_image path Memory = NoMemory
told_of_image path fault = ImageRefused path fault

-- a journal with a fault at its front
pub record TellsFront (path : Bor (List ℕ)) (bytes : List ℕ) (failure : Failure) : Type 0 where
  pub fault : JournalFault
  pub is : IsFrontFault fault bytes
  pub told : failure ≡ JournalRefused path 0 fault

-- a journal with damage at this byte
pub record TellsDamage (path : Bor (List ℕ)) (place : ℕ) (bytes : List ℕ) (failure : Failure) : Type 0 where
  pub fault : JournalFault
  pub counts : CountsBatches fault bytes
  pub told : failure ≡ JournalRefused path place fault

-- that of a journal: the byte at which it has a fault. Without a base it is a file that begins as no image, or a journal with its fault
-- at the front
abbrev pub TellsJournal : Bor (List ℕ) → List ℕ → Fault → Failure → Type 0
TellsJournal path bytes Unreadable failure = (failure ≡ ImageRefused path Magic) ⊎ TellsFront path bytes failure
TellsJournal path bytes (Damaged place) failure = TellsDamage path place bytes failure
TellsJournal path bytes (Undone place) failure = failure ≡ JournalRefused path place journal.Undone
TellsJournal path bytes (OfFile error) failure = failure ≡ NoMemory

-- that of a file that ends where an image goes on: as an image, or as a journal with its fault at the front
abbrev pub TellsCut : Bor (List ℕ) → List ℕ → Failure → Type 0
TellsCut path bytes failure = (failure ≡ ImageRefused path Truncated) ⊎ TellsFront path bytes failure

-- bytes are refused as a journal for a fault, which this tells
pub record RefusesJournal (path : Bor (List ℕ)) (bytes : List ℕ) (failure : Failure) : Type 0 where
  pub fault : Fault
  pub refused : RefusesBytes bytes fault
  pub told : TellsJournal path bytes fault failure

-- a device is refused that has more than a namespace, or memory is wanting, and nothing else
abbrev pub RefusesMore : Bor (List ℕ) → State → Failure → Type 0
RefusesMore path s (DeviceRefused told) = (told ≡ path) × (s ≢ new_state s.namespace)
RefusesMore path s NoMemory = Unit {0}
RefusesMore path s _ = ⊥
