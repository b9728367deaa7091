-- How the text of a question is cut into words.
use Rattle.std.specs.Prelude.{ℕ, zero, suc, ◌+◌, ◌-◌, min, ◌==◌, Bool, not, ◌&&◌, ◌||◌, if◌then◌else◌, List, [], ◌∷◌, length, take, drop, slice_index}
use Rattle.std.specs.List.{position_or_len}
use Rattle.std.specs.Char.{is_ascii_alphanumeric}

-- a letter, a digit, `_`, `@` or `-`: what names, numbers and fields are made of
abbrev pub is_word_byte : ℕ → Bool
is_word_byte byte = is_ascii_alphanumeric byte || (byte == 95 || (byte == 64 || byte == 45))

-- two bytes that are one word: `&&`, `||`, `..`, `==`, `!=`, `<=` and `>=`
abbrev pub is_pair : ℕ → ℕ → Bool
is_pair a b =
    (a == 38 && b == 38)
    || ((a == 124 && b == 124) || ((a == 46 && b == 46) || ((a == 61 || (a == 33 || (a == 60 || a == 62))) && b == 61)))

-- how many bytes of these three are a word, where names aren't made of the first: `..=`, one of the pairs, or one byte, as a blank
abbrev pub symbol_width : ℕ → ℕ → ℕ → ℕ
symbol_width a b c = if is_pair a b then (if a == 46 && c == 61 then 3 else 2) else 1

-- how many bytes a text in quotes has, with them: up to the second `"`, or all where there is none
abbrev pub quoted_width : List ℕ → ℕ
quoted_width text = min (length text) (position_or_len (λ byte. byte == 34) (drop 1 text) + 2)

-- how many bytes the first word of a text has: all that names are made of, those of a text in quotes, or those of a symbol
abbrev pub width : List ℕ → ℕ
width text =
    if is_word_byte (slice_index text 0) then position_or_len (λ byte. not (is_word_byte byte)) text
    else (if slice_index text 0 == 34 then quoted_width text
    else symbol_width (slice_index text 0) (slice_index text 1) (slice_index text 2))

-- a word, and how many bytes the text has from its first on
pub record Cut : Type 0 where
  pub left : ℕ
  pub word : List ℕ

-- the words of a text after so many bytes
abbrev pub cuts_after : ℕ → List ℕ → List Cut
cuts_after skip [] = []
cuts_after zero (byte ∷ rest) =
    record { left = length (byte ∷ rest); word = take (width (byte ∷ rest)) (byte ∷ rest) } ∷ cuts_after (width (byte ∷ rest) - 1) rest
cuts_after (suc skip) (byte ∷ rest) = cuts_after skip rest

-- the words of a text, of which a blank is one
unfoldable pub cuts : List ℕ → List Cut
cuts text = cuts_after 0 text
