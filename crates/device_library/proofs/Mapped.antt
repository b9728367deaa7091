-- An array that is made of another's elements.
use Rattle.std.proofs.Common.{◌≡◌, ℕ, ◌+◌, ◌<◌, ◌≤◌, List, [], ◌∷◌, ◌++◌, drop, inl, inr, length, get_or, map, min, set, take, sym, ap, ◌∙◌, arith}
use Rattle.std.proofs.lemmas.Bool.{cases_lt}
use Rattle.std.proofs.lemmas.List.{drop_all, map_more, take_all, take_more_set}

-- one element more of it is made
pub mapped_more : {A B : Type 0} (f : A → B) (xs : List A) (ys : List B) (i : ℕ) (y : B) (d : A) → i < length xs → i < length ys
    → take i ys ≡ map f (take i xs) → y ≡ f (get_or xs i d) → take (i + 1) (set ys i y) ≡ map f (take (i + 1) xs)
mapped_more f xs ys i y d inside there before here =
    take_more_set ys i y there ∙ ap (λ v. v ++ y ∷ []) before ∙ ap (λ v. map f (take i xs) ++ v ∷ []) here ∙ sym (map_more f xs i d inside)

-- the first of them, as many as there are at most
pub take_least : {A : Type 0} (n k : ℕ) (xs : List A) → k ≡ min (length xs) n → take k xs ≡ take n xs
take_least n k xs is = elim (cases_lt n (length xs)) [
  | inl more ↦ let same : k ≡ n = omega (arith, is, more) in ap (λ (m : ℕ). take m xs) same
  | inr all ↦ let past : length xs ≤ k = omega (arith, is, all) in take_all k xs past ∙ sym (take_all n xs all)
]

-- and what stands after them in another list that isn't longer
pub drop_least : {A : Type 0} (n k m : ℕ) (ys : List A) → k ≡ min m n → length ys ≤ n → drop k ys ≡ drop m ys
drop_least n k m ys is short = elim (cases_lt n m) [
  | inl more ↦ drop_all k ys (omega (arith, is, more, short)) ∙ sym (drop_all m ys (omega (arith, more, short)))
  | inr all ↦ let same : k ≡ m = omega (arith, is, all) in ap (λ (l : ℕ). drop l ys) same
]
