-- The faults of a file that can't be moved by a command.
use Rattle.std.specs.Prelude.{ℕ}
use Rattle.command_files.specs.declared.data_fault.DataFault.{DataFault}
use Rattle.command_files.specs.declared.data_fault.DataFault.TheVariants.{Empty, TooLong, NotWholeBlocks}

-- the number of a fault, by which a user is told of it (profile)
abbrev pub data_number : DataFault → ℕ
data_number Empty = 1
data_number (TooLong bytes) = 2
data_number (NotWholeBlocks bytes block) = 3
