-- A part of a page, and zeros behind its end.
use Rattle.std.proofs.Common.{◌≡◌, ℕ, ◌-◌, List, ◌++◌, length, take, min, replicate, ap, ◌∙◌, sym}
use Rattle.std.proofs.lemmas.List.{length-take, take_min}
use Rattle.common_definitions.specs.Bytes.{padded}

-- as much as there is, and zeros for the rest
pub part_in_two : (size given : ℕ) (xs : List ℕ) → given ≡ min size (length xs)
    → take given xs ++ replicate (size - given) 0 ≡ padded size (take size xs)
part_in_two size given xs is =
    ap (λ (most : ℕ). take most xs ++ replicate (size - most) 0) is
    ∙ ap (λ (front : List ℕ). front ++ replicate (size - min size (length xs)) 0) (take_min size xs)
    ∙ ap (λ (most : ℕ). take size xs ++ replicate (size - most) 0) (sym (length-take size xs))
