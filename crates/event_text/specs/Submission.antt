-- The line of a command file that tells of a submission (profile).
use Rattle.std.specs.Prelude.{◌≡◌, ℕ, ◌==◌, not, List, ◌++◌, Some, codes}
use Rattle.std.specs.Fmt.{decimal}
use Rattle.std.specs.List.{AllPass}
use Rattle.hex.specs.Hex.{encode_lower}
use Rattle.device_events.specs.ToldEvents.{ToldEvent}
use Rattle.event_text.specs.CommandFile.{line_told}
use Rattle.event_text.specs.Lines.{data_text}

-- a queue, an entry and the data beside it, without the end of the line
abbrev pub submission_text : ℕ → List ℕ → List ℕ → List ℕ
submission_text queue entry input = codes "submit " ++ decimal queue ++ codes " " ++ encode_lower entry ++ data_text input

-- a text has no end of a line in it, and a command file that has it as a line tells this event there
pub record Tells (line : List ℕ) (meant : ToldEvent) : Type 0 where
  pub single : AllPass (λ byte. not (byte == 10)) line
  pub told : line_told line ≡ Some (Some meant)
