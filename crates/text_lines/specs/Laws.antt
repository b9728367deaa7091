-- How a text is cut into parts and into lines, and what of it stands between blanks.
use Rattle.std.specs.Prelude.{ℕ, ◌≡◌, ◌<◌, ◌↔◌, true, false, List, [], ◌∷◌, ◌++◌, length, Some, None}
use Rattle.std.specs.List.{AllByRecursion}
use Rattle.std.specs.Str.Lines.{lines, strip_carriage_return}
use Rattle.text_lines.specs.Cut.{cut_at, is_blank_byte, parts_at, trimmed}

-- a text without such a byte is one part
abbrev pub UncutIsOnePart : Type 0
UncutIsOnePart = (byte : ℕ) (text : List ℕ) → cut_at byte text ≡ None → parts_at byte text ≡ text ∷ []

-- else its first part stands before the first such byte, and the others are the parts of what stands behind that
abbrev pub CutIsAfterFirstPart : Type 0
CutIsAfterFirstPart =
    (byte : ℕ) (text front rest : List ℕ) → cut_at byte text ≡ Some (front, rest) → parts_at byte text ≡ front ∷ parts_at byte rest

-- the list has a first element
abbrev pub HasFirst : List (List ℕ) → Type 0
HasFirst parts = (first : List ℕ) × (rest : List (List ℕ)) × (parts ≡ first ∷ rest)

-- so there is a part always
abbrev pub SomePartIsThere : Type 0
SomePartIsThere = (byte : ℕ) (text : List ℕ) → HasFirst (parts_at byte text)

-- the first line of a text is what stands before its first newline, but for a carriage return at its end, and the others are
-- the lines of what stands behind that
abbrev pub LinesAreCut : Type 0
LinesAreCut =
    (text line behind : List ℕ) → cut_at 10 text ≡ Some (line, behind) → lines text ≡ strip_carriage_return line ∷ lines behind

-- a text without a newline is one line, if it has any bytes
abbrev pub LastLineIsWhole : Type 0
LastLineIsWhole = (text : List ℕ) → 0 < length text → cut_at 10 text ≡ None → lines text ≡ text ∷ []

-- else it has no line
abbrev pub NothingHasNoLine : Type 0
NothingHasNoLine = lines [] ≡ []

-- a text of blanks alone, or of nothing
abbrev pub AreBlanks : List ℕ → Type 0
AreBlanks text = AllByRecursion (λ byte. is_blank_byte byte ≡ true) text

-- no blank is first
abbrev pub NoBlankFirst : List ℕ → Type 0
NoBlankFirst bytes = (byte : ℕ) (rest : List ℕ) → bytes ≡ byte ∷ rest → is_blank_byte byte ≡ false

-- no blank is last
abbrev pub NoBlankLast : List ℕ → Type 0
NoBlankLast bytes = (rest : List ℕ) (byte : ℕ) → bytes ≡ rest ++ byte ∷ [] → is_blank_byte byte ≡ false

-- a text is blanks, these bytes, which neither begin nor end with a blank, and blanks
pub record IsBetweenBlanks (text bytes : List ℕ) : Type 0 where
  pub front : List ℕ
  pub back : List ℕ
  pub parts : text ≡ front ++ (bytes ++ back)
  pub front_blanks : AreBlanks front
  pub back_blanks : AreBlanks back
  pub first : NoBlankFirst bytes
  pub last : NoBlankLast bytes

-- the trimmed text stands so in it, and nothing else does
abbrev pub TrimmedTextsAreBetweenBlanks : Type 0
TrimmedTextsAreBetweenBlanks = (text bytes : List ℕ) → IsBetweenBlanks text bytes ↔ (bytes ≡ trimmed text)
