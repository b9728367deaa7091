-- Why a call failed.
use Rattle.std.specs.Prelude.{◌<◌, ◌≤◌, Result, IsErrOf}
use Rattle.stored_file.specs.File.{FileState}
use Rattle.stored_file.specs.declared.stored_file.FileError.{FileError}
use Rattle.stored_file.specs.declared.stored_file.FileError.TheVariants.{NoRoom, Failed}

-- that it failed is told only where the disk has
pub record HasCause {T : Type 0} (old new : FileState) (result : Result T FileError) : Type 0 where
  pub later : old.faults ≤ new.faults
  pub failed : IsErrOf result Failed → old.faults < new.faults
  pub no_room : IsErrOf result NoRoom → old.faults < new.faults
