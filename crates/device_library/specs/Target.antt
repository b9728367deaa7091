-- A target whose device is kept in a file or is in memory alone, until a loop serves it.
use Rattle.std.specs.Prelude.{ℕ, ◌≡◌, ◌⊎◌, ◌&&◌, not, Bool, true, false, List, [], ◌∷◌, Option, Some, None}
use Rattle.stored_file.specs.File.{FileState}
use Rattle.handed_file.specs.Handed.{is_settled}
use Rattle.handed_file.specs.declared.handed_file.HandedFile.{HandedFile}
use Rattle.device_meaning.specs.State.{State}
use Rattle.durable_device.specs.Kept.{IsCommittedBut, IsKept}
use Rattle.tcp_device.specs.State.{with_target}
use Rattle.tcp_admin.specs.Identity.{IsNamedBy}
use Rattle.tcp_admin.specs.declared.subsystem.Subsystem.{Subsystem}
use Rattle.durable_machine.specs.Seals.{events_of}
use Rattle.durable_machine.specs.declared.in_file.InFile.{InFile}
use Rattle.tcp_device.specs.declared.keeper.Keeper.{Keeper}
use Rattle.device_library.specs.Files.{IsToldDone, promised_of, told_by}
use Rattle.device_library.specs.declared.target.Target.{Target}

-- ---- the file

-- what is known of the file once C has made each call that it was handed, as long as none was refused
abbrev pub promised : Keeper (InFile HandedFile) → FileState
promised k = promised_of k.events.journal.file

-- what is known of it by the calls that C told as done
abbrev pub told : Keeper (InFile HandedFile) → FileState
told k = told_by k.events.journal.file

-- ---- what is kept

-- what was committed is kept once C has made the calls that it was handed, and the rest waits for a commit
abbrev pub Keeps : Option (Keeper (InFile HandedFile)) → State → Type 0
Keeps None device = Unit {0}
Keeps (Some k) device = IsCommittedBut (events_of k.events.waiting) device k.events.journal.gate (promised k)

-- it is so as long as the file hasn't to be opened again
abbrev pub WillBeKept : Target → Type 0
WillBeKept s = s.failed ≡ false → Keeps s.keeper s.served.device

-- all that was done is on the disk, by what C told
abbrev pub IsOnTheDisk : Option (Keeper (InFile HandedFile)) → State → Type 0
IsOnTheDisk None device = Unit {0}
IsOnTheDisk (Some k) device = IsKept device k.events.journal.gate (told k)

-- nothing failed, no call waits, and all is committed; or the device is to be in memory alone
abbrev pub is_empty : List ℕ → Bool
is_empty [] = true
is_empty (x ∷ xs) = false

abbrev pub is_settled_in : Option (Keeper (InFile HandedFile)) → Bool
is_settled_in None = true
is_settled_in (Some k) = is_settled k.events.journal.file && is_empty (events_of k.events.waiting)

abbrev pub may_begin : Target → Bool
may_begin s = not s.failed && is_settled_in s.keeper

-- so a loop may serve it: all that was done is on the disk
pub record MayBegin (s : Target) : Type 0 where
  pub usable : s.failed ≡ false
  pub kept : IsOnTheDisk s.keeper s.served.device

-- the device is in memory alone
pub record IsInMemory (s : Target) : Type 0 where
  pub memory : s.keeper ≡ None
  pub usable : s.failed ≡ false

-- ---- what it is

-- the target has the names of a UUID from now on,
pub record HasNames (uuid : List ℕ) (old new : Target) (answer : Bool) : Type 0 where
  pub subsystem : Subsystem
  pub names : IsNamedBy uuid subsystem
  pub rest : new ≡ record old { served = with_target (record old.served.target { subsystem = subsystem }) old.served }
  pub told : answer ≡ true

-- or keeps those that it had, where these are no 16 bytes, or memory is wanting
abbrev pub IsNamed : List ℕ → Target → Target → Bool → Type 0
IsNamed uuid old new answer = HasNames uuid old new answer ⊎ ((new ≡ old) × (answer ≡ false))

-- ---- its calls

-- the next call is noted as done
pub record TakesNext (old new : Keeper (InFile HandedFile)) : Type 0 where
  pub file : IsToldDone old.events.journal.file new.events.journal.file
  pub rest : new ≡ record old { events = record old.events { journal = record old.events.journal { file = new.events.journal.file } } }

abbrev pub TakesDoneBy : Option (Keeper (InFile HandedFile)) → Option (Keeper (InFile HandedFile)) → Type 0
TakesDoneBy None None = Unit {0}
TakesDoneBy (Some old) (Some new) = TakesNext old new
TakesDoneBy None (Some new) = ⊥
TakesDoneBy (Some old) None = ⊥

pub record TakesDone (old new : Target) : Type 0 where
  pub rest : new ≡ record old { keeper = new.keeper }
  pub taken : TakesDoneBy old.keeper new.keeper

-- it has failed, and nothing else happens
abbrev pub TakesFailed : Target → Target → Type 0
TakesFailed old new = new ≡ record old { failed = true }
