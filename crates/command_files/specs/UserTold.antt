-- What an error is told as (profile): of the system, of the command line, of a command file, of a file that can't be read or
-- written, and of a word that spells no number of a range.
use Rattle.std.specs.Prelude.{◌≡◌, ◌<◌, ◌*◌, ◌^◌, ◌⊎◌, ℕ, List, length, Option, IfSome}
use Rattle.std.specs.Borrow.{Bor}
use Rattle.std.specs.declared.io.ErrorKind.{ErrorKind}
use Rattle.std.specs.declared.io.ErrorKind.TheVariants as system
use Rattle.clap.specs.Words.{kind_of}
use Rattle.clap.specs.declared.error.Error.{Error}
use Rattle.clap.specs.declared.error.kind.ErrorKind as clap
use Rattle.clap.specs.declared.error.kind.ErrorKind.TheVariants as kind
use Rattle.clap.specs.declared.parser.matches.ArgMatches.{ArgMatches}
use Rattle.event_text.specs.declared.command_file.ParseFault.{ParseFault}
use Rattle.event_text.specs.declared.command_file.ParseFault.TheVariants.{Line, Memory}
use Rattle.command_files.specs.Arguments.{number_of, number_or_hexadecimal_of, value_of}
use Rattle.command_files.specs.declared.failure.Failure.{Failure}
use Rattle.command_files.specs.declared.failure.Failure.TheVariants.{CannotRead, CannotWrite, CommandLine, LineRefused, NotInRange, NotText, NoMemory}
use Rattle.command_files.specs.declared.file_cause.FileCause.TheVariants as file_cause
use Rattle.command_files.specs.declared.files.FileFault.{FileFault}
use Rattle.command_files.specs.declared.files.FileFault.TheVariants as file

-- a word of the command line that can't be read
abbrev pub told_of_words : ErrorKind → Failure
told_of_words system.OutOfMemory = NoMemory
told_of_words _ = NotText

-- a command line that is wrong, by the kind of what is wrong with it
abbrev pub told_of_kind : Error → clap.ErrorKind → Failure
told_of_kind error kind.OutOfMemory = NoMemory
told_of_kind error _ = CommandLine error

-- a command line that is wrong
abbrev pub told_of_command_line : Error → Failure
told_of_command_line error = told_of_kind error (kind_of error)

-- a file that is no command file: its name, the number of its lowest line that is refused, and why it is refused
abbrev pub told_of_commands : Bor (List ℕ) → ParseFault → Failure
told_of_commands path (Line number fault) = LineRefused path number fault
told_of_commands path Memory = NoMemory

-- a file that the system refuses
abbrev pub told_of_file : ErrorKind → FileFault
told_of_file system.OutOfMemory = file.Memory
told_of_file system.NotFound = file.Failed file_cause.NotFound
told_of_file system.PermissionDenied = file.Failed file_cause.PermissionDenied
told_of_file system.NotADirectory = file.Failed file_cause.NotADirectory
told_of_file system.IsADirectory = file.Failed file_cause.IsADirectory
told_of_file system.ReadOnlyFilesystem = file.Failed file_cause.ReadOnlyFilesystem
told_of_file system.StorageFull = file.Failed file_cause.NoRoom
told_of_file system.QuotaExceeded = file.Failed file_cause.NoRoom
told_of_file system.FileTooLarge = file.Failed file_cause.TooLarge
told_of_file _ = file.Failed file_cause.Other

-- a file that is told as too large has more bytes than so many times 2^20, where they are told, and this number is told
abbrev pub IsPast : Option (List ℕ) → ℕ → FileFault → Type 0
IsPast told mebibytes (file.Failed (file_cause.LargerThan most)) = (most ≡ mebibytes) × IfSome told (λ bytes. mebibytes * 2 ^ 20 < length bytes)
IsPast told mebibytes _ = Unit {0}

-- it is told as another one
abbrev pub IsNotPast : FileFault → Type 0
IsNotPast (file.Failed (file_cause.LargerThan most)) = ⊥
IsNotPast _ = Unit {0}

-- a file with this name that can't be read
abbrev pub told_unread : Bor (List ℕ) → FileFault → Failure
told_unread path (file.Failed cause) = CannotRead path cause
told_unread path file.Memory = NoMemory

-- a file with this name that can't be written
abbrev pub told_unwritten : Bor (List ℕ) → FileFault → Failure
told_unwritten path (file.Failed cause) = CannotWrite path cause
told_unwritten path file.Memory = NoMemory

-- a file with this name can't be read, or there is no memory for it
abbrev pub IsUnread : Bor (List ℕ) → Failure → Type 0
IsUnread path (CannotRead told cause) = told ≡ path
IsUnread path NoMemory = Unit {0}
IsUnread path _ = ⊥

-- it can't be written, or there is no memory for that
abbrev pub IsUnwritten : Bor (List ℕ) → Failure → Type 0
IsUnwritten path (CannotWrite told cause) = told ≡ path
IsUnwritten path NoMemory = Unit {0}
IsUnwritten path _ = ⊥

-- the failure tells this option, its word, and the least and the most
abbrev pub IsNotInRange : ArgMatches → Bor (List ℕ) → ℕ → ℕ → Failure → Type 0
IsNotInRange matches option least most (NotInRange told word low high) =
    (told ≡ option) × (word.now ≡ value_of matches option.now) × (low ≡ least) × (high ≡ most)
IsNotInRange matches option least most _ = ⊥

-- the failure tells an option whose word is read as no number from the least to the most
abbrev pub IsReadAsNone : Option ℕ → ArgMatches → Bor (List ℕ) → ℕ → ℕ → Failure → Type 0
IsReadAsNone read matches option least most failure =
    IsNotInRange matches option least most failure × IfSome read (λ number. (number < least) ⊎ (most < number))

-- whose word spells none in decimal digits
abbrev pub SpellsNone : ArgMatches → Bor (List ℕ) → ℕ → ℕ → Failure → Type 0
SpellsNone matches option least most failure = IsReadAsNone (number_of matches option.now) matches option least most failure

-- nor in hexadecimal ones behind `0x`
abbrev pub SpellsNoneOrHexadecimal : ArgMatches → Bor (List ℕ) → ℕ → ℕ → Failure → Type 0
SpellsNoneOrHexadecimal matches option least most failure =
    IsReadAsNone (number_or_hexadecimal_of matches option.now) matches option least most failure
