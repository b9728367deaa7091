-- The line that is printed for a command (profile).
use Rattle.std.specs.Prelude.{◌≡◌, ℕ, List, [], ◌∷◌, ◌++◌, Option, Ok}
use Rattle.std.specs.Io.KnownBytes.{Appends}
use Rattle.nvme_entry.specs.Entry.{decoded, identifier_of}
use Rattle.nvme_entry.specs.declared.command.Command.{Command}
use Rattle.device_events.specs.ToldEvents.{Submitted}
use Rattle.event_text.specs.Submission.{Tells}

-- a line, without its end, that a command file's reader takes for the submission, to this queue and with this data beside it, of an
-- entry that is decoded to this command and has this identifier
pub record SubmitsCommand (line : List ℕ) (queue cid : ℕ) (command : Command) (input : List ℕ) : Type 0 where
  pub entry : List ℕ
  pub told : Tells line (Submitted queue entry input)
  pub asked : decoded entry ≡ Ok command
  pub identifier : identifier_of entry ≡ cid

-- these bytes are such a line and its end
pub record IsCommandLine (bytes : List ℕ) (queue cid : ℕ) (command : Command) (input : List ℕ) : Type 0 where
  pub line : List ℕ
  pub ended : bytes ≡ line ++ 10 ∷ []
  pub submits : SubmitsCommand line queue cid command input

-- one such line is printed
pub record PrintsCommand (before after : Option (List ℕ)) (queue cid : ℕ) (command : Command) (input : List ℕ) : Type 0 where
  pub bytes : List ℕ
  pub is : IsCommandLine bytes queue cid command input
  pub printed : Appends before after bytes

-- one is printed for some command
pub record PrintsEntry (before after : Option (List ℕ)) : Type 0 where
  pub queue : ℕ
  pub cid : ℕ
  pub command : Command
  pub input : List ℕ
  pub prints : PrintsCommand before after queue cid command input
