-- What holds of each element of a list.
use Rattle.std.proofs.Common.{ℕ, zero, suc, List, [], ◌∷◌, ◌++◌, take, drop, set, get_or, replicate}
use Rattle.std.specs.List.{AllByRecursion}

module _ {X : Type 0} (P : X → Type 0) where
  -- what holds of each element of two lists holds of each of both, put together
  pub all_append : (xs ys : List X) → AllByRecursion P xs → AllByRecursion P ys → AllByRecursion P (xs ++ ys)
  all_append [] ys h k = k
  all_append (x ∷ xs) ys h k = (h.0, all_append xs ys h.1 k)

  -- what holds of each element holds of each of the first so many
  pub all_take : (n : ℕ) (xs : List X) → AllByRecursion P xs → AllByRecursion P (take n xs)
  all_take zero xs h = tt
  all_take (suc n) [] h = tt
  all_take (suc n) (x ∷ xs) h = (h.0, all_take n xs h.1)

  -- what holds of each element holds of each behind the first so many
  pub all_drop : (n : ℕ) (xs : List X) → AllByRecursion P xs → AllByRecursion P (drop n xs)
  all_drop zero xs h = h
  all_drop (suc n) [] h = tt
  all_drop (suc n) (x ∷ xs) h = all_drop n xs h.1

  -- what holds of an element holds of each of a list that repeats it
  pub all_same : (n : ℕ) (x : X) → P x → AllByRecursion P (replicate n x)
  all_same zero x h = tt
  all_same (suc n) x h = (h, all_same n x h)

  -- what holds of each element still does after one was set to an element of which it holds
  pub all_set : (xs : List X) (i : ℕ) (x : X) → AllByRecursion P xs → P x → AllByRecursion P (set xs i x)
  all_set [] i x h k = tt
  all_set (y ∷ ys) zero x h k = (k, h.1)
  all_set (y ∷ ys) (suc i) x h k = (h.0, all_set ys i x h.1 k)

  -- what holds of each element, and of what is read past the end, holds of what is read at any place
  pub all_at : (xs : List X) (i : ℕ) (d : X) → AllByRecursion P xs → P d → P (get_or xs i d)
  all_at [] i d h k = k
  all_at (x ∷ xs) zero d h k = h.0
  all_at (x ∷ xs) (suc i) d h k = all_at xs i d h.1 k

-- what follows for each element holds of each
pub all_from : {X : Type 0} (P Q : X → Type 0) → ((x : X) → P x → Q x) → (xs : List X) → AllByRecursion P xs → AllByRecursion Q xs
all_from P Q f [] h = tt
all_from P Q f (x ∷ xs) h = (f x h.0, all_from P Q f xs h.1)
