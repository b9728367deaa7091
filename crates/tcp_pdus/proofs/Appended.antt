-- What is added in parts.
use Rattle.std.proofs.Common.{◌≡◌, ℕ, List, ◌++◌, ap, ◌∙◌, append_assoc}

-- two parts, one behind the other
pub in_two : (out one two header bytes : List ℕ) → one ≡ out ++ header → two ≡ one ++ bytes → two ≡ out ++ (header ++ bytes)
in_two out one two header bytes first second = second ∙ ap (λ (x : List ℕ). x ++ bytes) first ∙ append_assoc out header bytes

-- three
pub in_three : (out one two three header gap bytes : List ℕ) → one ≡ out ++ header → two ≡ one ++ gap → three ≡ two ++ bytes
    → three ≡ out ++ ((header ++ gap) ++ bytes)
in_three out one two three header gap bytes first second third = in_two out two three (header ++ gap) bytes (in_two out one two header gap first second) third
