-- Where a text is cut (profile).
use Rattle.std.specs.Prelude.{ℕ, ◌==◌, Bool, ◌&&◌, ◌||◌, nat_lt, if◌then◌else◌, List, [], ◌∷◌, length, Option, Some, None}
use Rattle.std.specs.List.{before_first, after_first, position_or_len, slice_split}

-- the text before the first such byte and the text behind it
abbrev pub cut_at : ℕ → List ℕ → Option (List ℕ × List ℕ)
cut_at byte text =
    if nat_lt (position_or_len (λ b. b == byte) text) (length text)
    then Some (before_first (λ b. b == byte) text, after_first (λ b. b == byte) text) else None

-- the parts of a text, cut at each such byte
abbrev pub parts_at : ℕ → List ℕ → List (List ℕ)
parts_at byte text = slice_split (λ b. b == byte) text

-- a space or a tab
abbrev pub is_blank_byte : ℕ → Bool
is_blank_byte byte = byte == 32 || byte == 9

-- the text without the blanks in front
abbrev pub without_first_blanks : List ℕ → List ℕ
without_first_blanks [] = []
without_first_blanks (byte ∷ text) = if is_blank_byte byte then without_first_blanks text else byte ∷ text

-- the text without the blanks behind it
abbrev pub without_end_blanks : List ℕ → List ℕ
without_end_blanks [] = []
without_end_blanks (byte ∷ text) =
    if is_blank_byte byte && length (without_end_blanks text) == 0 then [] else byte ∷ without_end_blanks text

-- the text without the blanks at its ends
abbrev pub trimmed : List ℕ → List ℕ
trimmed text = without_end_blanks (without_first_blanks text)

-- what stands before the first `;`
abbrev pub uncommented : List ℕ → List ℕ
uncommented line = before_first (λ byte. byte == 59) line
