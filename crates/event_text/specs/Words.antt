-- The words of a line (profile).
use Rattle.std.specs.Prelude.{ℕ, nat_lt, List, [], ◌∷◌, length, filter, Option, Some, None}
use Rattle.std.specs.List.{slice_split}
use Rattle.text_lines.specs.Cut.{is_blank_byte}

-- what spaces and tabs separate
abbrev pub words_of : List ℕ → List (List ℕ)
words_of text = filter (λ word. nat_lt 0 (length word)) (slice_split is_blank_byte text)

-- two words, or three; the third is empty where it is missing
abbrev pub two_or_three_of : List (List ℕ) → Option (List ℕ × List ℕ × List ℕ)
two_or_three_of (first ∷ second ∷ []) = Some (first, second, [])
two_or_three_of (first ∷ second ∷ third ∷ []) = Some (first, second, third)
two_or_three_of _ = None
