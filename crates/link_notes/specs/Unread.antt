-- The lines of a text that aren't read yet (profile).
use Rattle.std.specs.Prelude.{ℕ, ◌+◌, List, [], ◌∷◌, take, drop, length, Option, Some, None, option_and_then, is_some, if◌then◌else◌}
use Rattle.std.specs.Str.{bytes_eq}
use Rattle.std.specs.Str.Lines.{lines}
use Rattle.text_lines.specs.Number.{decimal_of}
use Rattle.link_notes.specs.declared.unread.Unread.{Unread}

-- the number of the first line that isn't read, and these lines
abbrev pub left_of : Unread → ℕ × List (List ℕ)
left_of unread = (unread.number, lines unread.rest.now)

-- the first of lines
abbrev pub first_of : List (List ℕ) → Option (List ℕ)
first_of [] = None
first_of (line ∷ rest) = Some line

-- the lines after the first, which has this number
abbrev pub past_first : ℕ → List (List ℕ) → ℕ × List (List ℕ)
past_first number [] = (number, [])
past_first number (line ∷ rest) = (number + 1, rest)

-- what is left once the first line is read
abbrev pub past : ℕ × List (List ℕ) → ℕ × List (List ℕ)
past left = past_first left.0 left.1

-- what stands after a key
abbrev pub after : List ℕ → List ℕ → Option (List ℕ)
after key text = if bytes_eq (take (length key) text) key then Some (drop (length key) text) else None

-- the number after a key, where a line is these two
abbrev pub number_after : List ℕ → List ℕ → Option ℕ
number_after key line = option_and_then decimal_of (after key line)

-- the number after a key, where the first line is these two
abbrev pub first_number : List ℕ → ℕ × List (List ℕ) → Option ℕ
first_number key left = option_and_then (number_after key) (first_of left.1)

-- what is left once such a line is read, where it is the first
abbrev pub past_number : List ℕ → ℕ × List (List ℕ) → ℕ × List (List ℕ)
past_number key left = if is_some (first_number key left) then past left else left
