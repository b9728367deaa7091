-- Numbers that are bytes, and lists of them.
use Rattle.std.specs.Prelude.{ℕ, zero, suc, ◌<◌, ◌+◌, ◌-◌, List, [], ◌∷◌, ◌++◌, length, take, drop, replicate, slice_index}
use Rattle.std.specs.List.{splice}
use Rattle.byteorder.specs.Endian.{little_number}

-- each of these numbers is below 256
abbrev pub AreBytes : List ℕ → Type 0
AreBytes bytes = (k : ℕ) → slice_index bytes k < 256

-- the number that so many bytes from one on spell, the lowest first
abbrev pub field : List ℕ → ℕ → ℕ → ℕ
field bytes at count = little_number count (drop at bytes)

-- bytes with others put in their place from one on
abbrev pub spliced : ℕ → List ℕ → List ℕ → List ℕ
spliced at new bytes = splice bytes at (at + length new) new

-- bytes with zeros behind them, up to a length
abbrev pub padded : ℕ → List ℕ → List ℕ
padded wanted bytes = bytes ++ replicate (wanted - length bytes) 0

-- so many pieces of this many bytes each, from the front of these bytes
abbrev pub pieces : ℕ → ℕ → List ℕ → List (List ℕ)
pieces size zero bytes = []
pieces size (suc count) bytes = take size bytes ∷ pieces size count (drop size bytes)
