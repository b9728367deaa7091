-- What the user is told of a file with a line that no reply is printed as.
use Rattle.std.specs.Prelude.{ℕ, List}
use Rattle.std.specs.Borrow.{Bor}
use Rattle.event_text.specs.declared.reply_file.RepliesFault.{RepliesFault}
use Rattle.event_text.specs.declared.reply_file.RepliesFault.TheVariants.{Line, Memory}
use Rattle.command_files.specs.declared.failure.Failure.{Failure}
use Rattle.command_files.specs.declared.failure.Failure.TheVariants.{NoMemory, ReplyRefused}

-- the file's name and the number of the line, or want of memory
abbrev pub told_of_replies : Bor (List ℕ) → RepliesFault → Failure
told_of_replies path (Line line) = ReplyRefused path line
told_of_replies path Memory = NoMemory
