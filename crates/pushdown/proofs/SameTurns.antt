-- Steps by numbers, of which each two come to the same in either order, come to the same in any order.
use Rattle.std.proofs.Common.{◌≡◌, ◌≢◌, ℕ, ◌+◌, ◌≤◌, Bool, cond, List, [], ◌∷◌, refl, ap, sym, ◌∙◌, arith, inl, inr}
use Rattle.std.specs.Prelude.{◌==◌, count_by}
use Rattle.std.specs.List.{fold}
use Rattle.std.proofs.lemmas.Bool.Decides.{eqb_tells}
use Rattle.std.proofs.lemmas.List.Sums.{sum_by-cons}
use Rattle.pushdown.specs.AnyOrder.{AreSameTurns}

abbrev count : ℕ → List ℕ → ℕ
count x xs = count_by (λ y. y == x) xs

one : ℕ → ℕ → ℕ
one x y = cond (y == x) 1 0

count-cons : (x y : ℕ) (ys : List ℕ) → count x (y ∷ ys) ≡ one x y + count x ys
unfolding one
count-cons x y ys = sum_by-cons (λ (z : ℕ). cond (z == x) 1 0) y ys

one-same : (x : ℕ) → one x x ≡ 1
unfolding one
one-same x = elim (eqb_tells x x) [
  | inl same ↦ ap (λ (b : Bool). cond b 1 0) same.0
  | inr other ↦ absurd (other.1 refl)
]

one-other : (x y : ℕ) → y ≢ x → one x y ≡ 0
unfolding one
one-other x y differs = elim (eqb_tells y x) [
  | inl same ↦ absurd (differs same.1)
  | inr other ↦ ap (λ (b : Bool). cond b 1 0) other.0
]

-- the list without the first that is this number
abbrev without : ℕ → List ℕ → List ℕ
without x [] = []
without x (y ∷ ys) = cond (y == x) ys (y ∷ without x ys)

-- brought to the front it stands there as often
front_count : (x : ℕ) (ys : List ℕ) → 1 ≤ count x ys → (z : ℕ) → count z (x ∷ without x ys) ≡ count z ys
front_count x [] some z = absurd (omega (arith, some))
front_count x (y ∷ ys) some z = elim (eqb_tells y x) [
  | inl same ↦
      ap (λ (b : Bool). count z (x ∷ cond b ys (y ∷ without x ys))) same.0 ∙ ap (λ (w : ℕ). count z (w ∷ ys)) (sym same.1)
  | inr other ↦
      let rest = without x ys in
      let later = front_count x ys (omega (arith, some, count-cons x y ys, one-other x y other.1)) z in
      let swapped : count z (x ∷ y ∷ rest) ≡ count z (y ∷ ys) =
      omega (arith, later, count-cons z x (y ∷ rest), count-cons z y rest, count-cons z x rest, count-cons z y ys) in
      ap (λ (b : Bool). count z (x ∷ cond b ys (y ∷ rest))) other.0 ∙ swapped
]

module _ {X : Type 0} (step : X → ℕ → X) (Holds : X → Type 0) (keeps : (x : X) (n : ℕ) → Holds x → Holds (step x n))
    (commutes : (x : X) (n m : ℕ) → Holds x → n ≢ m → step (step x n) m ≡ step (step x m) n) where
  -- a number's first step can be done before the others
  step_first : (n : ℕ) (ms : List ℕ) (x : X) → Holds x → 1 ≤ count n ms → fold step x ms ≡ fold step (step x n) (without n ms)
  step_first n [] x holds some = absurd (omega (arith, some))
  step_first n (m ∷ ms) x holds some = elim (eqb_tells m n) [
    | inl same ↦
        ap (λ (k : ℕ). fold step (step x k) ms) same.1 ∙ ap (λ (b : Bool). fold step (step x n) (cond b ms (m ∷ without n ms))) (sym same.0)
    | inr other ↦
        let less : 1 ≤ count n ms = omega (arith, some, count-cons n m ms, one-other n m other.1) in
        step_first n ms (step x m) (keeps x m holds) less
        ∙ ap (λ (y : X). fold step y (without n ms)) (commutes x m n holds other.1)
        ∙ ap (λ (b : Bool). fold step (step x n) (cond b ms (m ∷ without n ms))) (sym other.0)
  ]

  pub in_any_order : (first second : List ℕ) (x : X) → Holds x → AreSameTurns first second → fold step x first ≡ fold step x second
  in_any_order [] [] x holds same = refl
  in_any_order [] (m ∷ ms) x holds same = absurd (omega (arith, same m, count-cons m m ms, one-same m))
  in_any_order (n ∷ ns) ms x holds same =
      let some : 1 ≤ count n ms = omega (arith, same n, count-cons n n ns, one-same n) in
      let rest = without n ms in
      in_any_order ns rest (step x n) (keeps x n holds)
      (λ (z : ℕ). omega (arith, same z, front_count n ms some z, count-cons z n ns, count-cons z n rest))
      ∙ sym (step_first n ms x holds some)
