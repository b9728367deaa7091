-- What an image file stands for: an image, or a journal.
use Rattle.std.specs.Prelude.{◌≡◌, ◌≢◌, ◌⊎◌, ℕ, List, Option, IfSome, Ok, Err}
use Rattle.zone_state.specs.Zone.{CountedZone}
use Rattle.image_store.specs.Geometry.{Shape}
use Rattle.image_store.specs.Namespace.{ZonedNamespace, counted_zones, shape}
use Rattle.image_text.specs.Reading.{namespace_in}
use Rattle.image_text.specs.declared.fault.LoadFault.TheVariants.{Magic, Truncated}
use Rattle.device_meaning.specs.State.{State, new_state}
use Rattle.durable_machine.specs.Refused.{IsDamaged, IsUndone}
use Rattle.durable_machine.specs.Salvage.{IsSalvaged}
use Rattle.durable_device.specs.Kept.{StandsForIt}
use Rattle.durable_device.specs.Machine.{IsDeviceBase, next_state}
use Rattle.command_files.specs.declared.journal_fault.JournalFault.{JournalFault}
use Rattle.command_files.specs.declared.journal_fault.JournalFault.TheVariants.{Damaged, MadeBy, NoBase, OpenGate, Undone}
use Rattle.image_base.specs.Base.{IsMadeByNoOther, IsMadeByOther}

-- the bytes are an image, whose device has neither a program nor a run
pub record AreImage (bytes : List ℕ) (s : State) : Type 0 where
  pub read : namespace_in bytes ≡ Ok s.namespace
  pub new : s ≡ new_state s.namespace

-- they begin as no image does, and are a journal, which stands for a device in this state and in no other
pub record AreJournal (bytes : List ℕ) (s : State) : Type 0 where
  pub no_image : namespace_in bytes ≡ Err Magic
  pub stand : StandsForIt bytes s

-- the bytes of a file, where they are told, begin as no image does
abbrev pub IsNoImage : Option (List ℕ) → Type 0
IsNoImage bytes = IfSome bytes (λ bytes. namespace_in bytes ≡ Err Magic)

-- they end where an image goes on
abbrev pub IsCut : Option (List ℕ) → Type 0
IsCut bytes = IfSome bytes (λ bytes. namespace_in bytes ≡ Err Truncated)

-- they stand for a device in this state
abbrev pub AreOf : List ℕ → State → Type 0
AreOf bytes s = AreImage bytes s ⊎ AreJournal bytes s

-- the bytes of a file, where they are told, stand for a device in this state
abbrev pub TellDevice : Option (List ℕ) → State → Type 0
TellDevice bytes s = IfSome bytes (λ bytes. AreOf bytes s)

-- they stand for one that has this namespace, and neither a program nor a run
abbrev pub TellNamespace : Option (List ℕ) → ZonedNamespace → Type 0
TellNamespace bytes namespace = TellDevice bytes (new_state namespace)

-- they stand for one that has this namespace, whatever else it has
pub record HaveNamespace (bytes : List ℕ) (namespace : ZonedNamespace) : Type 0 where
  pub device : State
  pub are : AreOf bytes device
  pub same : namespace ≡ device.namespace

-- the bytes of a file, where they are told, stand for one that has this namespace, whatever else it has
abbrev pub TellItsNamespace : Option (List ℕ) → ZonedNamespace → Type 0
TellItsNamespace bytes namespace = IfSome bytes (λ bytes. HaveNamespace bytes namespace)

-- they stand for one whose namespace has this shape and these zones
pub record HaveTable (bytes : List ℕ) (s : Shape) (zones : List CountedZone) : Type 0 where
  pub device : State
  pub are : AreOf bytes device
  pub shape_is : s ≡ shape device.namespace
  pub zones_are : zones ≡ counted_zones device.namespace

-- the bytes of a file, where they are told, stand for one whose namespace has this shape and these zones
abbrev pub TellTable : Option (List ℕ) → Shape → List CountedZone → Type 0
TellTable bytes s zones = IfSome bytes (λ bytes. HaveTable bytes s zones)

-- they stand for one that has a program or a run, which no image keeps
pub record TellMore (bytes : Option (List ℕ)) : Type 0 where
  pub device : State
  pub tell : TellDevice bytes device
  pub more : device ≢ new_state device.namespace

-- bytes stand for no device
abbrev pub StandForNone : List ℕ → Type 0
StandForNone bytes = (s : State) → AreOf bytes s → ⊥

-- what is wrong at the front of bytes: another version of the device made them, or none did
abbrev pub IsFrontFault : JournalFault → List ℕ → Type 0
IsFrontFault (MadeBy version profile) bytes = IsMadeByOther (record { version = version; profile = profile }) bytes
IsFrontFault NoBase bytes = IsMadeByNoOther bytes
IsFrontFault _ bytes = ⊥

-- bytes begin with a base and so many whole batches, which end here; so many stand whole after that
pub record HasWhole (end whole readable : ℕ) (bytes : List ℕ) : Type 0 where
  pub device : State
  pub salvaged : IsSalvaged IsDeviceBase next_state end whole readable bytes device

-- a fault says of damaged bytes nothing more than that they are, or how many of their batches are whole
abbrev pub CountsBatches : JournalFault → List ℕ → Type 0
CountsBatches OpenGate bytes = Unit {0}
CountsBatches (Damaged whole readable) bytes = (end : ℕ) × HasWhole end whole readable bytes
CountsBatches _ bytes = ⊥

-- they are a journal that has a fault at this byte: what no crash leaves from there on, so that they stand for no device, also with the
-- number of batches that are whole before and after it; an event there that changes nothing when it is done again; or at the front no
-- base of this device, so that they stand for none
abbrev pub AreFaulty : JournalFault → ℕ → List ℕ → Type 0
AreFaulty OpenGate place bytes = IsDamaged IsDeviceBase next_state place bytes × StandForNone bytes
AreFaulty (Damaged whole readable) place bytes =
    IsDamaged IsDeviceBase next_state place bytes × HasWhole place whole readable bytes × StandForNone bytes
AreFaulty Undone place bytes = IsUndone IsDeviceBase next_state place bytes
AreFaulty fault place bytes = (place ≡ 0) × IsFrontFault fault bytes × StandForNone bytes
