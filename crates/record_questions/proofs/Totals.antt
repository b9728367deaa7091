-- What tallies come to that begin at 0.
use Rattle.std.proofs.Common.{ℕ, suc, ◌+◌, ◌-◌, ◌<◌, ◌≤◌, ◌^◌, ◌%◌, ◌≡◌, ◌≤ℤ◌, ◌⊎◌, inl, inr, Bool, true, false, map, List, [], ◌∷◌, length, refl, sym, ap, ◌∙◌, subst, arith, lit<}
use Rattle.std.proofs.Math.Nat.{mod-eq_of_lt}
use Rattle.std.proofs.lemmas.List.{length-map}
use Rattle.std.proofs.lemmas.Bool.Decides.{nat_tests}
use Rattle.std.specs.List.{AllByRecursion, Contains}
use Rattle.std.specs.Prelude.{max, nat_le}
use Rattle.common_definitions.specs.Bytes.{AreBytes}
use Rattle.record_questions.proofs.Numbers.{value_is_number}
use Rattle.record_questions.proofs.Ranks.{rank_in_fits, sum_is, unsigned_sum_is, value_again, value_below}
use Rattle.record_questions.proofs.Words.{step_fits}
use Rattle.record_questions.specs.declared.question.Field.{Field}
use Rattle.record_questions.specs.declared.question.Tally.{Tally}
use Rattle.record_questions.specs.declared.question.Tally.TheVariants.{Count, Least, Greatest}
use Rattle.record_questions.specs.Question.{value_of}
use Rattle.record_questions.specs.Tallies.{TalliesAreTotals, IsGreatest, IsLeast, rank_in, tally_from, tally_step, value_at}

wrapped : (a b : ℕ) → (a % 2 ^ 64 + b) % 2 ^ 64 ≡ (a + b) % 2 ^ 64
wrapped a b = omega arith

count_from : (rs : List (List ℕ)) (word : ℕ) → tally_from Count rs word % 2 ^ 64 ≡ (word + length rs) % 2 ^ 64
count_from [] word = let e : word ≡ word + 0 = omega arith in ap (λ (k : ℕ). k % 2 ^ 64) e
count_from (r ∷ rs) word =
    let e : word + 1 + length rs ≡ word + length (r ∷ rs) = omega arith in
    count_from rs ((word + 1) % 2 ^ 64) ∙ (wrapped (word + 1) (length rs) ∙ ap (λ (k : ℕ). k % 2 ^ 64) e)

-- a tally is a word
tally_fits : (t : Tally) (rs : List (List ℕ)) (word : ℕ) → AllByRecursion AreBytes rs → word < 2 ^ 64 → tally_from t rs word < 2 ^ 64
tally_fits t [] word are small = small
tally_fits t (r ∷ rs) word are small = tally_fits t rs (tally_step t r word) are.1 (step_fits t r word are.0 small)

-- ---- the least and the greatest

-- the greatest of a word and these numbers
abbrev top_of : List ℕ → ℕ → ℕ
top_of [] word = word
top_of (x ∷ xs) word = top_of xs (max word x)

-- x is one of these numbers
abbrev Among : List ℕ → ℕ → Type 0
Among [] x = ⊥
Among (y ∷ ys) x = (x ≡ y) ⊎ Among ys x

either_max : (a b : ℕ) → (max a b ≡ a) ⊎ (max a b ≡ b)
either_max a b = by (nat_le b a) refl
  where
    by : (t : Bool) → nat_le b a ≡ t → (max a b ≡ a) ⊎ (max a b ≡ b)
    by true e = inl (grind (arith, nat_tests))
    by false e = inr (grind (arith, nat_tests))

top_above : (xs : List ℕ) (word : ℕ) → word ≤ top_of xs word
top_above [] word = omega arith
top_above (x ∷ xs) word = let h = top_above xs (max word x) in omega (arith, h)

top_all : (xs : List ℕ) (word : ℕ) → AllByRecursion (λ y. y ≤ top_of xs word) xs
top_all [] word = tt
top_all (x ∷ xs) word = let h = top_above xs (max word x) in (omega (arith, h), top_all xs (max word x))

top_which : (xs : List ℕ) (word : ℕ) → (top_of xs word ≡ word) ⊎ Among xs (top_of xs word)
top_which [] word = inl refl
top_which (x ∷ xs) word = from (top_which xs (max word x)) (either_max word x)
  where
    from : (top_of xs (max word x) ≡ max word x) ⊎ Among xs (top_of xs (max word x)) → (max word x ≡ word) ⊎ (max word x ≡ x)
        → (top_of xs (max word x) ≡ word) ⊎ Among (x ∷ xs) (top_of xs (max word x))
    from (inr there) which = inr (inr there)
    from (inl e) (inl f) = inl (e ∙ f)
    from (inl e) (inr f) = inr (inl (e ∙ f))

top_among : (xs : List ℕ) → 1 ≤ length xs → Among xs (top_of xs 0)
top_among [] some = absurd (omega (arith, some))
top_among (x ∷ xs) some = from (top_which (x ∷ xs) 0)
  where
    from : (top_of (x ∷ xs) 0 ≡ 0) ⊎ Among (x ∷ xs) (top_of (x ∷ xs) 0) → Among (x ∷ xs) (top_of (x ∷ xs) 0)
    from (inl e) = let h = (top_all (x ∷ xs) 0).0 in inl (omega (arith, h, e))
    from (inr there) = there

-- ---- of values, by their ranks

-- the ranks of a field's values
abbrev ranks_of : Field → List (List ℕ) → List ℕ
ranks_of f rs = map (rank_in f) rs

greatest_is_top : (f : Field) (rs : List (List ℕ)) (word : ℕ) → tally_from (Greatest f) rs word ≡ top_of (ranks_of f rs) word
greatest_is_top f [] word = refl
greatest_is_top f (r ∷ rs) word = greatest_is_top f rs (max word (rank_in f r))

-- what is left to 2^64 - 1
abbrev rest_of : ℕ → ℕ
rest_of x = 2 ^ 64 - 1 - x

least_is_top : (f : Field) (rs : List (List ℕ)) (word : ℕ) → tally_from (Least f) rs word ≡ top_of (map rest_of (ranks_of f rs)) word
least_is_top f [] word = refl
least_is_top f (r ∷ rs) word = least_is_top f rs (max word (rest_of (rank_in f r)))

ranks_fit : (f : Field) (rs : List (List ℕ)) → AllByRecursion AreBytes rs → AllByRecursion (λ x. x < 2 ^ 64) (ranks_of f rs)
ranks_fit f [] are = tt
ranks_fit f (r ∷ rs) are = (rank_in_fits f r are.0, ranks_fit f rs are.1)

rest_among : (xs : List ℕ) (x : ℕ) → AllByRecursion (λ y. y < 2 ^ 64) xs → Among (map rest_of xs) x → Among xs (rest_of x)
rest_among [] x fit there = elim there [ ]
rest_among (y ∷ ys) x fit (inl e) = let small = fit.0 in inl (omega (arith, e, small))
rest_among (y ∷ ys) x fit (inr there) = inr (rest_among ys x fit.1 there)

rest_all : (xs : List ℕ) (x : ℕ) → AllByRecursion (λ y. y < 2 ^ 64) xs → AllByRecursion (λ y. y ≤ x) (map rest_of xs) → AllByRecursion (λ y. rest_of x ≤ y) xs
rest_all [] x fit all = tt
rest_all (y ∷ ys) x fit all = let small = fit.0 in let h = all.0 in (omega (arith, small, h), rest_all ys x fit.1 all.1)

-- the value of a rank among these is among the values
value_there : (f : Field) (rs : List (List ℕ)) (x : ℕ) → AllByRecursion AreBytes rs → Among (ranks_of f rs) x
    → Contains (map (value_of f) rs) (value_at f.sign x)
value_there f [] x are there = elim there [ ]
value_there f (r ∷ rs) x are (inl e) =
    (0, omega arith, value_again f.sign (value_of f r) (value_is_number f r are.0) ∙ ap (value_at f.sign) (sym e))
value_there f (r ∷ rs) x are (inr there) =
    let c = value_there f rs x are.1 there in
    let below = c.1 in
    (suc c.0, omega (arith, below), c.2)

value_back : (f : Field) (r : List ℕ) → AreBytes r → value_at f.sign (rank_in f r) ≡ value_of f r
value_back f r are = sym (value_again f.sign (value_of f r) (value_is_number f r are))

values_below : (f : Field) (rs : List (List ℕ)) (x : ℕ) → AllByRecursion AreBytes rs → AllByRecursion (λ y. y ≤ x) (ranks_of f rs)
    → AllByRecursion (λ z. z ≤ℤ value_at f.sign x) (map (value_of f) rs)
values_below f [] x are all = tt
values_below f (r ∷ rs) x are all = (
  subst (λ z. z ≤ℤ value_at f.sign x) (value_back f r are.0) (value_below f.sign (rank_in f r) x all.0),
  values_below f rs x are.1 all.1,
)

values_above : (f : Field) (rs : List (List ℕ)) (x : ℕ) → AllByRecursion AreBytes rs → AllByRecursion (λ y. x ≤ y) (ranks_of f rs)
    → AllByRecursion (λ z. value_at f.sign x ≤ℤ z) (map (value_of f) rs)
values_above f [] x are all = tt
values_above f (r ∷ rs) x are all = (
  subst (λ z. value_at f.sign x ≤ℤ z) (value_back f r are.0) (value_below f.sign x (rank_in f r) all.0),
  values_above f rs x are.1 all.1,
)

least_is : (f : Field) (rs : List (List ℕ)) → AllByRecursion AreBytes rs → 1 ≤ length rs
    → IsLeast (map (value_of f) rs) (value_at f.sign (2 ^ 64 - 1 - tally_from (Least f) rs 0))
least_is f rs are some =
    let xs = ranks_of f rs in
    let top = top_of (map rest_of xs) 0 in
    let fit = ranks_fit f rs are in
    let long : 1 ≤ length (map rest_of xs) = omega (arith, some, length-map xs rest_of, length-map rs (rank_in f)) in
    subst (λ x. IsLeast (map (value_of f) rs) (value_at f.sign (rest_of x))) (sym (least_is_top f rs 0)) (
      value_there f rs (rest_of top) are (rest_among xs top fit (top_among (map rest_of xs) long)),
      values_above f rs (rest_of top) are (rest_all xs top fit (top_all (map rest_of xs) 0)),
    )

greatest_is : (f : Field) (rs : List (List ℕ)) → AllByRecursion AreBytes rs → 1 ≤ length rs
    → IsGreatest (map (value_of f) rs) (value_at f.sign (tally_from (Greatest f) rs 0))
greatest_is f rs are some =
    let xs = ranks_of f rs in
    let long : 1 ≤ length xs = omega (arith, some, length-map rs (rank_in f)) in
    subst (λ x. IsGreatest (map (value_of f) rs) (value_at f.sign x)) (sym (greatest_is_top f rs 0))
    (value_there f rs (top_of xs 0) are (top_among xs long), values_below f rs (top_of xs 0) are (top_all xs 0))

pub tallies_are_totals : TalliesAreTotals
tallies_are_totals = record {
  count = λ rs are. let e : 0 + length rs ≡ length rs = omega arith in
      sym (mod-eq_of_lt (tally_fits Count rs 0 are (lit< tt))) ∙ (count_from rs 0 ∙ ap (λ (k : ℕ). k % 2 ^ 64) e);
  sum = sum_is;
  unsigned_sum = unsigned_sum_is;
  least = least_is;
  greatest = greatest_is;
}
