-- Yes and no as bytes.
use Rattle.std.specs.Prelude.{ℕ, ◌==◌, ◌++◌, Bool, true, false, List, drop, length, not, replicate, take}

abbrev pub byte_of : Bool → ℕ
byte_of true = 1
byte_of false = 0

abbrev pub is_set : ℕ → Bool
is_set byte = not (byte == 0)

-- a byte for each place, of which the first are these, and the others 0
abbrev pub padded : List ℕ → List ℕ
padded bytes = take 40 bytes ++ drop (length bytes) (replicate 40 0)
