-- What opening a handle comes to, by each door.
use Rattle.std.specs.Prelude.{ℕ, ◌≡◌, ◌⊎◌, Bool, true, false, nat_eq, List, [], ◌∷◌, Option, Some, None, Ok, Err, IsOk}
use Rattle.std.specs.List.{starts_with}
use Rattle.stored_file.specs.File.{LeavesOnly}
use Rattle.stored_file.specs.Calls.{Call, Opened}
use Rattle.handed_file.specs.declared.handed_file.HandedFile.{HandedFile}
use Rattle.device_meaning.specs.State.{State, new_state}
use Rattle.durable_machine.specs.declared.fault.Fault.{Fault}
use Rattle.durable_machine.specs.declared.fault.Fault.TheVariants.{OfFile}
use Rattle.durable_device.specs.Kept.{IsKept, IsKeptInBase, IsOldOrStandsFor, KeepsRestarted, LeavesFound, StandsFor, StandsForIt}
use Rattle.durable_device.specs.Machine.{IsDeviceBase, next_state}
use Rattle.durable_machine.specs.Refused.{IsUndone}
use Rattle.durable_machine.specs.declared.journal.Journal.{Journal}
use Rattle.image_base.specs.Base.{IsMadeByNoOther, IsMadeByOther, magic}
use Rattle.image_base.specs.declared.front.Maker.{Maker}
use Rattle.image_store.specs.Namespace.{ZonedNamespace, shape}
use Rattle.image_text.specs.Fault.{load_number}
use Rattle.image_text.specs.Reading.{header_in, namespace_in}
use Rattle.image_text.specs.declared.fault.LoadFault.{LoadFault}
use Rattle.image_text.specs.declared.fault.LoadFault.TheVariants.{Memory}
use Rattle.tcp_admin.specs.declared.subsystem.NamespaceFormat.{NamespaceFormat}
use Rattle.tcp_admin.specs.declared.subsystem.Subsystem.{Subsystem}
use Rattle.tcp_device.specs.Format.{IsFormatOf}
use Rattle.tcp_device.specs.State.{ServedState, begun, begun_on}
use Rattle.durable_machine.specs.declared.in_file.InFile.{InFile}
use Rattle.tcp_device.specs.declared.keeper.Keeper.{Keeper}
use Rattle.device_library.specs.Files.{known_by, promised_of}
use Rattle.device_library.specs.Kept.{journal_of, state_of}
use Rattle.device_library.specs.Kinds.{door_of}
use Rattle.device_library.specs.Sessions.{KeepsAll}
use Rattle.device_library.specs.Target.{IsInMemory}
use Rattle.device_library.specs.declared.handle.Handle.{Handle}
use Rattle.device_library.specs.declared.handle.Session.{Session}
use Rattle.device_library.specs.declared.handle.Session.TheVariants as session
use Rattle.device_library.specs.declared.kept.Kept.{Kept}
use Rattle.device_library.specs.declared.kind.Door.{Door}
use Rattle.device_library.specs.declared.kind.Door.TheVariants as door
use Rattle.device_library.specs.declared.numbers.TheConstants.{DAMAGED, DONE, NO_DOOR, OTHER_VERSION}
use Rattle.device_library.specs.declared.target.Target.{Target}

-- ---- images

-- the bytes are no image, and the number is that of its first fault
pub record IsNoImage (bytes : List ℕ) (number : ℕ) : Type 0 where
  pub fault : LoadFault
  pub refused : namespace_in bytes ≡ Err fault
  pub told : number ≡ load_number fault

-- memory is wanting, which it is only behind a header that is accepted
pub record WantsMemory (bytes : List ℕ) (number : ℕ) : Type 0 where
  pub header : IsOk (header_in bytes)
  pub told : number ≡ load_number Memory

-- the device is that of the namespace that the bytes tell, before any event
pub record IsImageOf (bytes : List ℕ) (device : State) : Type 0 where
  pub namespace : ZonedNamespace
  pub told : namespace_in bytes ≡ Ok namespace
  pub begins : device ≡ new_state namespace

abbrev pub IsRefusedImage : List ℕ → ℕ → Type 0
IsRefusedImage bytes number = IsNoImage bytes number ⊎ WantsMemory bytes number

-- a target whose device has this namespace, before any event, and to which no host is connected
pub record IsBegun (namespace : ZonedNamespace) (served : ServedState) : Type 0 where
  pub subsystem : Subsystem
  pub format : NamespaceFormat
  pub format_is : IsFormatOf (shape namespace) format
  pub begins : served ≡ begun namespace subsystem format

-- the target is that of the namespace that the bytes tell, in memory alone
pub record IsTargetOf (bytes : List ℕ) (target : Target) : Type 0 where
  pub namespace : ZonedNamespace
  pub told : namespace_in bytes ≡ Ok namespace
  pub begun : IsBegun namespace target.served
  pub memory : IsInMemory target

abbrev pub IsRefusedTarget : List ℕ → ℕ → Type 0
IsRefusedTarget bytes number = IsNoImage bytes number ⊎ (number ≡ load_number Memory)

-- ---- files

-- the device is the one that a file stands for which was left by these calls. While C makes those for opening it, a crash leaves what an
-- earlier program may have left, or the same device; and where all of the file was on the disk, the same device
pub record IsReopened (calls : List Call) (device : State) (journal : Journal HandedFile) : Type 0 where
  pub is : StandsForIt (known_by calls).seen device
  pub moments : KeepsRestarted (known_by calls) (promised_of journal.file)
  pub found : LeavesFound (known_by calls) (promised_of journal.file) (λ c. StandsFor c device)

-- the device has the namespace of an image, without a program or a run, and a crash leaves the file as it was, or a journal of this device
pub record IsCreated (bytes : List ℕ) (calls : List Call) (device : State) (journal : Journal HandedFile) : Type 0 where
  pub namespace : ZonedNamespace
  pub told : namespace_in bytes ≡ Ok namespace
  pub state : device ≡ new_state namespace
  -- the journal is empty: the base alone stands for the device
  pub in_base : IsKeptInBase device journal.gate (promised_of journal.file)
  pub moments : LeavesOnly (known_by calls) (promised_of journal.file) (IsOldOrStandsFor (known_by calls) (new_state namespace))

-- do the bytes begin as a journal does?
abbrev pub begin_a_journal : List ℕ → Bool
begin_a_journal bytes = starts_with nat_eq bytes magic

-- the file that was opened had these bytes: those of a journal, or of an image
abbrev pub IsDeviceBy : Bool → List ℕ → State → Journal HandedFile → Type 0
IsDeviceBy true bytes device journal = IsReopened (Opened bytes ∷ []) device journal
IsDeviceBy false bytes device journal = IsCreated bytes (Opened bytes ∷ []) device journal

abbrev pub IsDeviceOf : List ℕ → State → Journal HandedFile → Type 0
IsDeviceOf bytes device journal = IsDeviceBy (begin_a_journal bytes) bytes device journal

-- the device is that of the file
pub record IsKeptOf (bytes : List ℕ) (kept : Kept) : Type 0 where
  pub device : IsDeviceOf bytes (state_of kept) (journal_of kept)
  pub answer : kept.answer.items ≡ []
  pub usable : kept.failed ≡ false

-- a target without connections is before this device, which is kept by this journal
pub record IsServed (device : State) (journal : Journal HandedFile) (target : Target) : Type 0 where
  pub subsystem : Subsystem
  pub format : NamespaceFormat
  pub format_is : IsFormatOf (shape device.namespace) format
  pub begins : target.served ≡ begun_on device subsystem format
  pub keeper : Keeper (InFile HandedFile)
  pub kept : target.keeper ≡ Some keeper
  pub usable : target.failed ≡ false
  pub journal_is : keeper.events.journal ≡ journal
  pub is_kept : IsKept device journal.gate (promised_of journal.file)

-- the target is before the device of the file
pub record IsKeptTargetOf (bytes : List ℕ) (target : Target) : Type 0 where
  pub device : State
  pub journal : Journal HandedFile
  pub is : IsDeviceOf bytes device journal
  pub served : IsServed device journal target

-- a device with another meaning or profile made a journal
pub record IsOfOther (bytes : List ℕ) : Type 0 where
  pub maker : Maker
  pub made : IsMadeByOther maker bytes

-- the number tells of a journal that isn't opened whether one made it
abbrev pub IsToldOfJournal : List ℕ → ℕ → Type 0
IsToldOfJournal bytes number = (IsOfOther bytes × (number ≡ OTHER_VERSION)) ⊎ (IsMadeByNoOther bytes × (number ≡ DAMAGED))

-- the number tells why a journal isn't opened
abbrev pub IsToldOfFault : Fault → List ℕ → ℕ → Type 0
IsToldOfFault (OfFile error) bytes number = number ≡ load_number Memory
IsToldOfFault fault bytes number = IsToldOfJournal bytes number

-- a journal stands for no device, so it is none that a crash leaves; or it has an event that isn't done again
pub record IsNoJournal (bytes : List ℕ) (number : ℕ) : Type 0 where
  pub why : ((device : State) → StandsFor bytes device → ⊥) ⊎ ((at : ℕ) × IsUndone IsDeviceBase next_state at bytes)
  pub told : IsToldOfJournal bytes number

abbrev pub IsNotOpened : Bool → List ℕ → ℕ → Type 0
IsNotOpened true bytes number = IsNoJournal bytes number
IsNotOpened false bytes number = IsNoImage bytes number

-- the bytes are refused for this, or memory is wanting
abbrev pub IsRefusedFile : List ℕ → ℕ → Type 0
IsRefusedFile bytes number = IsNotOpened (begin_a_journal bytes) bytes number ⊎ (number ≡ load_number Memory)

-- ---- handles

-- each door opens one thing
abbrev pub IsOpenedBy : Option Door → List ℕ → Session → Type 0
IsOpenedBy (Some door.Memory) bytes (session.Memory device) = IsImageOf bytes device
IsOpenedBy (Some door.File) bytes (session.Kept kept) = IsKeptOf bytes kept
IsOpenedBy (Some door.Target) bytes (session.Target target) = IsTargetOf bytes target
IsOpenedBy (Some door.TargetFile) bytes (session.Target target) = IsKeptTargetOf bytes target
IsOpenedBy _ bytes _ = ⊥

-- or refuses the bytes
abbrev pub IsRefusedBy : Option Door → List ℕ → ℕ → Type 0
IsRefusedBy (Some door.Memory) bytes number = IsRefusedImage bytes number
IsRefusedBy (Some door.File) bytes number = IsRefusedFile bytes number
IsRefusedBy (Some door.Target) bytes number = IsRefusedTarget bytes number
IsRefusedBy (Some door.TargetFile) bytes number = IsRefusedFile bytes number
IsRefusedBy None bytes number = number ≡ NO_DOOR

-- there is what the door opens on these bytes; or there is nothing, and the number tells why
abbrev pub HasOpened : Option Door → List ℕ → Option Session → ℕ → Type 0
HasOpened door bytes (Some session) number = IsOpenedBy door bytes session × (number ≡ DONE)
HasOpened door bytes None number = IsRefusedBy door bytes number

-- a handle is made so, and what stands between calls stands
pub record IsMadeBy (door : Option Door) (bytes : List ℕ) (handle : Handle) : Type 0 where
  pub opened : HasOpened door bytes handle.session handle.opened
  pub kept : KeepsAll handle

abbrev pub IsMade : ℕ → List ℕ → Handle → Type 0
IsMade door bytes handle = IsMadeBy (door_of door) bytes handle
