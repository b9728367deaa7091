-- The first element of a list that passes a test.
use Rattle.std.proofs.Common.{◌≡◌, ◌∙◌, ℕ, suc, ◌-◌, ◌<◌, ◌≤◌, Bool, true, false, find, List, get_or, length, Option, Some, None, ap, sym, subst, arith, inl, inr}
use Rattle.std.proofs.lemmas.Bool.{cases_lt}
use Rattle.std.proofs.lemmas.List.Folds.{find_at}
use Rattle.std.proofs.lemmas.List.Sums.{fails_before_first, passes_at_first, position_or_len_is}
use Rattle.std.proofs.lemmas.Option.{get_or_from_slice_get, none-some, slice_get-get_or, slice_get_within}
use Rattle.std.specs.List.{position_or_len, slice_get}

module _ {X : Type 0} (test : X → Bool) (xs : List X) where
  -- its place, behind the last where none passes
  abbrev first : ℕ
  first = position_or_len test xs

  at_first : (found : Option X) → find test xs ≡ found → slice_get xs first ≡ found
  at_first found e = sym (find_at test xs) ∙ e

  -- what is found passes
  pub found_passes : (x : X) → find test xs ≡ Some x → test x ≡ true
  found_passes x e =
      let here = at_first (Some x) e in
      subst (λ y. test y ≡ true) (get_or_from_slice_get xs first x x here)
      (passes_at_first test xs x (slice_get_within xs first x here))

-- the list has all elements in the order of their numbers, from 1 on
pub record AreNumbered {X : Type 0} (number : X → ℕ) (xs : List X) : Type 0 where
  pub listed : (x : X) → slice_get xs (number x - 1) ≡ Some x
  pub numbered : (k : ℕ) (x : X) → slice_get xs k ≡ Some x → number x ≡ suc k

module _ {X : Type 0} {number : X → ℕ} {xs : List X} (are : AreNumbered number xs) (test : X → Bool) where
  fails_before : (x : X) → number x ≤ first test xs → test x ≡ false
  fails_before x less =
      let place = are.numbered (number x - 1) x (are.listed x) in
      subst (λ y. test y ≡ false) (get_or_from_slice_get xs (number x - 1) x x (are.listed x))
      (fails_before_first test xs (number x - 1) x (omega (arith, place, less)))

  -- what has a smaller number than the one that is found fails
  pub less_fails : (x other : X) → find test xs ≡ Some x → number other < number x → test other ≡ false
  less_fails x other e less =
      let place = are.numbered (first test xs) x (at_first test xs (Some x) e) in
      fails_before other (omega (arith, less, place))

  -- where all that have a smaller number fail, what stands before it fails
  fails_earlier : (x : X) → ((other : X) → number other < number x → test other ≡ false) → (k : ℕ) → k < number x - 1 → test (get_or xs k x) ≡ false
  fails_earlier x less k earlier =
      let within = slice_get_within xs (number x - 1) x (are.listed x) in
      let place = are.numbered k (get_or xs k x) (slice_get-get_or xs k x (omega (arith, earlier, within))) in
      less (get_or xs k x) (omega (arith, earlier, place))

  -- what passes is found where all that have a smaller number fail
  pub least_found : (x : X) → test x ≡ true → ((other : X) → number other < number x → test other ≡ false) → find test xs ≡ Some x
  least_found x passes less =
      let within = slice_get_within xs (number x - 1) x (are.listed x) in
      let own : get_or xs (number x - 1) x ≡ x = get_or_from_slice_get xs (number x - 1) x x (are.listed x) in
      let first_is = position_or_len_is test xs (number x - 1) x (omega (arith, within)) (fails_earlier x less) (λ _. ap test own ∙ passes) in
      find_at test xs ∙ ap (slice_get xs) first_is ∙ are.listed x

  -- where none is found, all fail
  pub all_fail : (x : X) → find test xs ≡ None → test x ≡ false
  all_fail x e =
      let within = slice_get_within xs (number x - 1) x (are.listed x) in
      elim (cases_lt (first test xs) (length xs)) [
        | inl inside ↦ absurd (none-some _ (sym (at_first test xs None e) ∙ slice_get-get_or xs (first test xs) x inside))
        | inr past ↦ fails_before x (omega (arith, within, past))
      ]
