-- What a file stands for that is opened as a durable device, and what a crash leaves of it meanwhile (profile).
use Rattle.std.specs.Prelude.{◌≡◌, ◌⊎◌, ℕ, List, Option, Ok}
use Rattle.stored_file.specs.File.{FileState}
use Rattle.image_text.specs.Reading.{namespace_in}
use Rattle.device_meaning.specs.State.{State, new_state}
use Rattle.durable_machine.specs.Refused.{HasNoState, IsDamaged, IsUndone}
use Rattle.durable_device.specs.Kept.{IsRestarted, KeepsRestarted, LeavesFound, StandsFor}
use Rattle.durable_device.specs.Machine.{IsDeviceBase, next_state}
use Rattle.command_files.specs.Made.{AreAsTold}
use Rattle.command_files.specs.declared.failure.Failure.{Failure}
use Rattle.command_files.specs.declared.journal_fault.JournalFault.{JournalFault}
use Rattle.command_files.specs.declared.journal_fault.JournalFault.TheVariants.{Damaged, OpenGate, Undone}
use Rattle.command_files.specs.declared.failure.Failure.TheVariants.{CannotRead, CannotWrite, ImageRefused, JournalRefused, NoMemory}
use Rattle.command_images.specs.Devices.{HasWhole, IsFrontFault}

-- the bytes are the text of an image, whose device has neither a program nor a run
pub record AreImage (bytes : List ℕ) (s : State) : Type 0 where
  pub read : namespace_in bytes ≡ Ok s.namespace
  pub new : s ≡ new_state s.namespace

-- the bytes of a file stand for a device in this state: they are a base and its journal, or an image
abbrev pub Means : List ℕ → State → Type 0
Means bytes s = StandsFor bytes s ⊎ AreImage bytes s

-- a file as it was found: all of it is on the disk, but for what an earlier program did last, and it has these bytes, where they are told
pub record IsFound (file : FileState) (contents : Option (List ℕ)) : Type 0 where
  pub restarted : IsRestarted file
  pub bytes_are : AreAsTold contents file.seen

-- the device in this state is opened of a file that was found: it was led there by what the file has. A crash at any moment of that
-- leaves what the file had, or a file that stands for the device; or what an earlier program may have left, where not all was on the disk
pub record Opens {S : Type 0} (told : S → FileState) (contents : Option (List ℕ)) (opened : FileState) (s : State) : Type 0 where
  pub file : S
  pub found : IsFound (told file) contents
  pub means : Means (told file).seen s
  pub moments : LeavesFound (told file) opened (λ c. (c ≡ (told file).seen) ⊎ StandsFor c s)

-- what is left of a file that was found, and isn't opened
pub data Leaves {S : Type 0} (told : S → FileState) (contents : Option (List ℕ)) : Type 0 where
  -- it was only read: a crash at any moment left what it had
  OnlyRead : (file left : S) (found : IsFound (told file) contents) (moments : LeavesFound (told file) (told left) (λ c. c ≡ (told file).seen))
      → Leaves told contents
  -- of a journal, a file that stands for what the old one does
  OfJournal : (file left : S) (found : IsFound (told file) contents) (moments : KeepsRestarted (told file) (told left))
      → Leaves told contents
  -- what it had, or a file that stands for its device
  OfDevice : (file left : S) (found : IsFound (told file) contents) (s : State) (means : Means (told file).seen s)
      (moments : LeavesFound (told file) (told left) (λ c. (c ≡ (told file).seen) ⊎ StandsFor c s)) → Leaves told contents

-- a journal has this fault at a byte: what no crash leaves, from there on, also with the number of batches that are whole before and after
-- it; an event that changes nothing when it is done again; or, at its front, no base of this device
abbrev pub HasFault : JournalFault → ℕ → List ℕ → Type 0
HasFault OpenGate place bytes = IsDamaged IsDeviceBase next_state place bytes
HasFault (Damaged whole readable) place bytes = IsDamaged IsDeviceBase next_state place bytes × HasWhole place whole readable bytes
HasFault Undone place bytes = IsUndone IsDeviceBase next_state place bytes
HasFault fault place bytes = (place ≡ 0) × IsFrontFault fault bytes × HasNoState IsDeviceBase next_state bytes

-- a journal that was found has it
pub record IsFoundFaulty {S : Type 0} (told : S → FileState) (contents : Option (List ℕ)) (fault : JournalFault) (place : ℕ) : Type 0 where
  pub file : S
  pub found : IsFound (told file) contents
  pub faulty : HasFault fault place (told file).seen

-- why no device is opened or folded: the journal has a fault, the file is no image, it can't be read or written, or want of memory
abbrev pub OpeningFails : {S : Type 0} → (S → FileState) → Option (List ℕ) → List ℕ → Failure → Type 0
OpeningFails told contents path (JournalRefused name place fault) = (name.now ≡ path) × IsFoundFaulty told contents fault place
OpeningFails told contents path (ImageRefused name fault) = name.now ≡ path
OpeningFails told contents path (CannotRead name cause) = name.now ≡ path
OpeningFails told contents path (CannotWrite name cause) = name.now ≡ path
OpeningFails told contents path NoMemory = Unit {0}
OpeningFails told contents path _ = ⊥

-- and what is left then
pub record FailsToOpen {S : Type 0} (told : S → FileState) (contents : Option (List ℕ)) (path : List ℕ) (failure : Failure) : Type 0 where
  pub left : Leaves told contents
  pub why : OpeningFails told contents path failure

-- why no file is found: it can't be held or read, or want of memory
abbrev pub IsNotFound : List ℕ → Failure → Type 0
IsNotFound path (CannotRead name cause) = name.now ≡ path
IsNotFound path (CannotWrite name cause) = name.now ≡ path
IsNotFound path NoMemory = Unit {0}
IsNotFound path _ = ⊥

-- it isn't found, or isn't opened
abbrev pub IsntOpened : {S : Type 0} → (S → FileState) → Option (List ℕ) → List ℕ → Failure → Type 0
IsntOpened told contents path failure = IsNotFound path failure ⊎ FailsToOpen told contents path failure
