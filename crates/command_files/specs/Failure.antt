-- How the program ends (profile).
use Rattle.std.specs.Prelude.{ℕ, Result, Ok, Err}
use Rattle.command_files.specs.declared.failure.Failure.{Failure}
use Rattle.command_files.specs.declared.failure.Failure.TheVariants.{CommandLine, NotText, NotInRange, CannotRead, CannotWrite, NotAnImage, CannotPrint, NoMemory, LineRefused, ReplyRefused, WordsRefused, CommandsRefused, GeometryRefused, NotABlock, EmitExceedsBlock, ImageRefused, JournalRefused, DeviceRefused, AssemblyRefused, ProgramRefused, FrameRefused, DataRefused, StreamRefused, StreamCutOff, NotAccepted, QuestionRefused}

-- the exit status of a failure: 1 for a file or memory, 2 for the command line, 3 for input that is refused, 4 for commands that the
-- device refused; of a line of words it is the one that the words have by themselves
abbrev pub status_of : Failure → ℕ
status_of (CannotRead path cause) = 1
status_of (CannotWrite path cause) = 1
status_of (NotAnImage path) = 1
status_of CannotPrint = 1
status_of NoMemory = 1
status_of (CommandLine error) = 2
status_of NotText = 2
status_of (NotInRange option word least most) = 2
status_of (EmitExceedsBlock emit block) = 2
status_of (LineRefused path line fault) = 3
status_of (ReplyRefused path line) = 3
status_of (GeometryRefused refusal) = 3
status_of (NotABlock path bytes) = 3
status_of (ImageRefused path fault) = 3
status_of (JournalRefused path place fault) = 3
status_of (DeviceRefused path) = 3
status_of (AssemblyRefused path refusal) = 3
status_of (ProgramRefused path refusal) = 3
status_of (FrameRefused path refusal) = 3
status_of (DataRefused path fault) = 3
status_of (StreamRefused place field) = 3
status_of (StreamCutOff place) = 3
status_of NotAccepted = 3
status_of (QuestionRefused told) = 3
status_of (CommandsRefused path line commands) = 4
status_of (WordsRefused path line status told) = status

-- the exit status of the program: 0 where all was done, else that of the failure
abbrev pub exit_status : Result (Unit {0}) Failure → ℕ
exit_status (Ok done) = 0
exit_status (Err failure) = status_of failure
