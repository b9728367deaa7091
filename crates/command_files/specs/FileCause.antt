-- Why a file can't be read or written.
use Rattle.std.specs.Prelude.{ℕ, List, [], codes}
use Rattle.command_files.specs.declared.file_cause.FileCause.{FileCause}
use Rattle.command_files.specs.declared.file_cause.FileCause.TheVariants.{NotFound, PermissionDenied, NotADirectory, IsADirectory, ReadOnlyFilesystem, NoRoom, NoNewFile, TooLarge, LargerThan, ReadBefore, InUse, Exists, NotOrdinary, Other}

-- what a user is told of the file (profile)
abbrev pub cause_words : FileCause → List ℕ
cause_words NotFound = codes "no such file or folder"
cause_words PermissionDenied = codes "permission denied"
cause_words NotADirectory = codes "a part of its path is no folder"
cause_words IsADirectory = codes "it is a folder"
cause_words ReadOnlyFilesystem = codes "the file system is read-only"
cause_words NoRoom = codes "no room is left"
cause_words NoNewFile = codes "no new file can be written beside it, as where no room is left"
cause_words TooLarge = codes "too large for the file system, or for a limit of the user"
cause_words ReadBefore = codes "standard input was read already"
cause_words InUse = codes "in use by another command"
cause_words Exists = codes "it has bytes already, and isn't replaced"
cause_words NotOrdinary = codes "not an ordinary file"
cause_words (LargerThan mebibytes) = []
cause_words Other = []
