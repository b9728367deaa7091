-- What `fold` leaves of a file (profile).
use Rattle.std.specs.Prelude.{◌≡◌, ◌⊎◌, ℕ, List, Option}
use Rattle.stored_file.specs.File.{FileState, LeavesOnly}
use Rattle.image_store.specs.Namespace.{ZonedNamespace}
use Rattle.device_meaning.specs.State.{State}
use Rattle.durable_device.specs.Kept.{IsKeptInBase, StandsFor}
use Rattle.command_files.specs.Made.{AreAsTold}
use Rattle.command_files.specs.declared.failure.Failure.{Failure}
use Rattle.command_images.specs.Images.{StandFor}
use Rattle.command_images.specs.UserTold.{UpgradeFails}
use Rattle.command_serve.specs.Opening.{FailsToOpen, Opens}

-- a journal is folded: a crash at any moment leaves a file that stands for the device that is opened of it, and so does the new file, by
-- its base alone
pub record FoldsJournal {S : Type 0} (told : S → FileState) (contents now : Option (List ℕ)) : Type 0 where
  pub opened : S
  pub device : State
  pub opens : Opens told contents (told opened) device
  pub file : S
  pub gate : ℕ
  pub kept : IsKeptInBase device gate (told file)
  pub moments : LeavesOnly (told opened) (told file) (λ c. StandsFor c device)
  pub has : AreAsTold now (told file).seen

-- an image that is no journal stays as it is
pub record LeavesImage (reads : Type 0) (contents now : Option (List ℕ)) : Type 0 where
  pub namespace : ZonedNamespace
  pub is : reads → StandFor contents namespace
  pub same : now ≡ contents

abbrev pub Folds : {S : Type 0} → (S → FileState) → Type 0 → Option (List ℕ) → Option (List ℕ) → Type 0
Folds told reads contents now = FoldsJournal told contents now ⊎ LeavesImage reads contents now

-- the image isn't held or loaded; or the journal isn't opened, or the file can't be written, and this is left then
abbrev pub IsntFolded : {S : Type 0} → (S → FileState) → Type 0 → List ℕ → Option (List ℕ) → Failure → Type 0
IsntFolded told reads path contents failure = UpgradeFails reads contents path failure ⊎ FailsToOpen told contents path failure
