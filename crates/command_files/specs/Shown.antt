-- A name or a word as a terminal is to show it (profile).
use Rattle.std.specs.Prelude.{ℕ, ◌/◌, ◌%◌, false, if◌then◌else◌, List, [], ◌∷◌, ◌++◌, codes}
use Rattle.std.specs.Char.{encode_utf8, is_control}
use Rattle.std.specs.Fmt.{digit_glyph}
use Rattle.std.specs.List.{flat_map}
use Rattle.std.specs.Str.{chars}

-- a byte as `\x` and two hexadecimal digits
abbrev pub escaped_byte : ℕ → List ℕ
escaped_byte byte = codes "\\x" ++ digit_glyph false (byte / 16) ∷ digit_glyph false (byte % 16) ∷ []

-- a character: a control character as the bytes of its UTF-8, each escaped, any other as it is
abbrev pub shown_char : ℕ → List ℕ
shown_char character = if is_control character then flat_map escaped_byte (encode_utf8 character) else encode_utf8 character

-- the text, character by character
unfoldable pub shown : List ℕ → List ℕ
shown text = flat_map shown_char (chars text)
