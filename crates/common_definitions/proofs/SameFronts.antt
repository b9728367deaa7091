-- Lists whose first elements are the same.
use Rattle.std.proofs.Common.{◌≡◌, ℕ, ◌+◌, ◌≤◌, List, take, drop, ap, sym, ◌∙◌}
use Rattle.std.proofs.lemmas.List.{drop-take, take-take}

module _ {X : Type 0} where
  -- what agrees up to a place agrees up to one before it
  pub agree_before : (n m : ℕ) (xs ys : List X) → n ≤ m → take m xs ≡ take m ys → take n xs ≡ take n ys
  agree_before n m xs ys less same = sym (take-take n m xs less) ∙ ap (take n) same ∙ take-take n m ys less

  -- and from a place up to the same one
  pub agree_behind : (n m all : ℕ) (xs ys : List X) → n + m ≡ all → take all xs ≡ take all ys → take m (drop n xs) ≡ take m (drop n ys)
  agree_behind n m all xs ys sum same =
      let here : take (n + m) xs ≡ take (n + m) ys = ap (λ (k : ℕ). take k xs) sum ∙ same ∙ ap (λ (k : ℕ). take k ys) (sym sum) in
      sym (drop-take n m xs) ∙ ap (drop n) here ∙ drop-take n m ys
