-- Lists of just so many texts.
use Rattle.std.specs.Prelude.{ℕ, List, [], ◌∷◌, Option, Some, None}

-- just one text
abbrev pub one_of : List (List ℕ) → Option (List ℕ)
one_of (first ∷ []) = Some first
one_of _ = None

-- just two texts
abbrev pub two_of : List (List ℕ) → Option (List ℕ × List ℕ)
two_of (first ∷ second ∷ []) = Some (first, second)
two_of _ = None
