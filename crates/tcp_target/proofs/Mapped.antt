-- An array made of what another's elements become.
use Rattle.std.proofs.Common.{◌≡◌, ℕ, ◌+◌, ◌<◌, List, [], ◌∷◌, ◌++◌, length, get_or, map, set, take, sym, ap, ◌∙◌}
use Rattle.std.proofs.lemmas.List.{map_more, take_more_set}

-- with one element more
pub mapped_more : {A B : Type 0} (f : A → B) (xs : List A) (ys : List B) (i : ℕ) (y : B) (d : A) → i < length xs → i < length ys
    → take i ys ≡ map f (take i xs) → y ≡ f (get_or xs i d) → take (i + 1) (set ys i y) ≡ map f (take (i + 1) xs)
mapped_more f xs ys i y d inside there before here =
    take_more_set ys i y there ∙ ap (λ v. v ++ y ∷ []) before ∙ ap (λ v. map f (take i xs) ++ v ∷ []) here ∙ sym (map_more f xs i d inside)
