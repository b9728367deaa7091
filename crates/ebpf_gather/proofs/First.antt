-- How the first of several things is found.
use Rattle.std.proofs.Common.{◌≡◌, ◌∙◌, ℕ, zero, suc, ◌+◌, ◌<◌, Option, None, Some, inl, inr, refl, ap, arith, subst}
use Rattle.std.proofs.lemmas.Bool.{cases_lt}
use Rattle.std.specs.Option.{option_or}
use Rattle.ebpf_gather.specs.First.{first_of}
use Rattle.ebpf_object.specs.First.{IsFirst, NoneHas}

module _ {X : Type 0} (of : ℕ → Option X) where
  -- where there is nothing below a number, and nothing of it, there is nothing up to it
  pub none_up_to : (number : ℕ) → first_of of number ≡ None → of number ≡ None → first_of of (number + 1) ≡ None
  none_up_to number none here =
      let next : suc number ≡ number + 1 = omega arith in
      let step : first_of of (suc number) ≡ None = ap (λ (o : Option X). option_or o (of number)) none ∙ here in
      subst (λ (n : ℕ). first_of of n ≡ None) next step

  -- the first that there is stays the first, however many more are looked at
  pub found_stays : (number : ℕ) (x : X) (count : ℕ) → first_of of number ≡ None → of number ≡ Some x → number < count → first_of of count ≡ Some x
  found_stays number x zero none here below = absurd (omega (arith, below))
  found_stays number x (suc count) none here below =
      elim (cases_lt number count) [
        | inl less ↦ ap (λ (o : Option X). option_or o (of count)) (found_stays number x count none here less)
        | inr past ↦
            let same : number ≡ count = omega (arith, below, past) in
            let now : first_of of (suc number) ≡ Some x = ap (λ (o : Option X). option_or o (of number)) none ∙ here in
            subst (λ (n : ℕ). first_of of (suc n) ≡ Some x) same now
      ]

  -- where none has one, there is no first
  pub none_first : (count : ℕ) → NoneHas of count → first_of of count ≡ None
  none_first zero none = refl
  none_first (suc count) none =
      let before : first_of of count ≡ None = none_first count (λ k below. none k (omega (arith, below))) in
      ap (λ (o : Option X). option_or o (of count)) before ∙ none count (omega arith)

  -- and what is told to be the first is it
  pub is_first : (count number : ℕ) (x : X) → IsFirst of count number x → first_of of count ≡ Some x
  is_first count number x first = found_stays number x count (none_first number first.before) first.has first.within
