-- What a failing disk is told as, and when.
use Rattle.std.specs.Prelude.{◌<◌, ◌≤◌, Result, IsErrOf}
use Rattle.stored_file.specs.File.{FileState}
use Rattle.stored_file.specs.declared.stored_file.FileError.{FileError}
use Rattle.stored_file.specs.declared.stored_file.FileError.TheVariants as file
use Rattle.device_serve.specs.declared.fault.ServeFault.{ServeFault}
use Rattle.device_serve.specs.declared.fault.ServeFault.TheVariants as fault

abbrev pub of_file : FileError → ServeFault
of_file file.Memory = fault.Memory
of_file file.NoRoom = fault.Disk
of_file file.Failed = fault.Disk

-- that the disk failed is told only where it has
pub record BlamesDisk {T : Type 0} (old new : FileState) (result : Result T ServeFault) : Type 0 where
  pub later : old.faults ≤ new.faults
  pub failed : IsErrOf result fault.Disk → old.faults < new.faults
