-- Why events aren't all done and saved.
use Rattle.std.specs.Prelude.{◌⊎◌, ℕ, List}
use Rattle.std.specs.Borrow.{Bor}
use Rattle.command_files.specs.declared.failure.Failure.{Failure}
use Rattle.command_files.specs.declared.failure.Failure.TheVariants.{CannotPrint, CannotRead, CannotWrite, NoMemory}
use Rattle.command_images.specs.UserTold.{IsUnheld}

-- standard output fails, the file with this name can't be read again or written, or memory is wanting, and nothing else
abbrev pub SavingFails : Bor (List ℕ) → Failure → Type 0
SavingFails path CannotPrint = Unit {0}
SavingFails path failure = IsUnheld path failure

-- where the file can't be read again or written, this holds of what was done and isn't saved (`unsaved`), and where memory is wanting,
-- that, or nothing was printed (`silent`)
abbrev pub SavingLeaves : Type 0 → Type 0 → Failure → Type 0
SavingLeaves silent unsaved (CannotRead told cause) = unsaved
SavingLeaves silent unsaved (CannotWrite told cause) = unsaved
SavingLeaves silent unsaved NoMemory = silent ⊎ unsaved
SavingLeaves silent unsaved _ = Unit {0}
