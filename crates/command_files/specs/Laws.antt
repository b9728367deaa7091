-- How a name or a word is shown that no terminal obeys.
use Rattle.std.specs.Prelude.{ℕ, ◌≡◌, List, false}
use Rattle.std.specs.Char.{is_control}
use Rattle.std.specs.List.{list_any}
use Rattle.std.specs.Str.{IsUtf8, chars}
use Rattle.command_files.specs.Shown.{shown}

-- a text of which no character is a control character is shown as it is
abbrev pub OrdinaryTextsAreShownAsTheyAre : Type 0
OrdinaryTextsAreShownAsTheyAre = (text : List ℕ) → IsUtf8 text → list_any is_control (chars text) ≡ false → shown text ≡ text
