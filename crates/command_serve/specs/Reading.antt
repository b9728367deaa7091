-- What is known of a file before it is read.
use Rattle.std.specs.Prelude.{◌≡◌, ℕ, List, Option, Some, IfSome}

-- a file that is read has the bytes that are told of it, where any are
abbrev pub AreKnown : Option (List ℕ) → Option (List ℕ) → Type 0
AreKnown told known = IfSome told (λ bytes. known ≡ Some bytes)
