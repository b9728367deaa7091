-- How the slots of a function are counted.
use Rattle.std.proofs.Common.{◌≡◌, ◌∙◌, nat_le, ℕ, zero, suc, ◌+◌, ◌<◌, ◌≤◌, Result, Ok, Err, inl, inr, refl, ap, arith, subst, sym, add-one, List, [], ◌∷◌, ◌++◌, slice_index}
use Rattle.std.proofs.lemmas.Bool.{cases_lt, leb-true}
use Rattle.common_definitions.proofs.Proved.{guarded}
use Rattle.common_definitions.specs.Readings.{◌>>=◌}
use Rattle.ebpf_inline.specs.Sizes.{few_slots, slots_before}
use Rattle.ebpf_inline.specs.declared.unit_fault.UnitFault.{UnitFault}
use Rattle.ebpf_inline.specs.declared.unit_fault.UnitFault.TheVariants as faults
use Rattle.program_interface.specs.declared.TheConstants.{MOST_SLOTS}

-- where one reading after another gives something, each does
pub both_give : {E X Y : Type 0} (read : Result X E) (next : X → Result Y E) (y : Y) → (read >>= next) ≡ Ok y
    → (x : X) × (read ≡ Ok x) × (next x ≡ Ok y)
both_give (Ok x) next y e = (x, refl, e)
both_give (Err fault) next y e = absurd cc

-- so many slots, counted
abbrev pub so_many : ℕ → Result ℕ UnitFault
so_many slots = Ok slots

-- slots that are few are as many
pub few_gives : (slots told : ℕ) → few_slots slots ≡ Ok told → (slots ≡ told) × (told ≤ MOST_SLOTS)
few_gives slots told e =
    let passed = guarded (nat_le slots MOST_SLOTS) (Ok slots) faults.TooLong told e in
    let few : slots ≤ MOST_SLOTS = leb-true slots MOST_SLOTS passed.0 in
    let is : so_many slots ≡ so_many told = passed.1 in
    let same : slots ≡ told = cc in
    (same, omega (arith, few, same))

module _ (of : ℕ → Result ℕ UnitFault) where
  -- where those of all slots are counted, those of each first ones are, and of each
  pub each_counted : (count slots slot : ℕ) → slots_before of count ≡ Ok slots → slot < count
      → (before : ℕ) × (here : ℕ) × (slots_before of slot ≡ Ok before) × (of slot ≡ Ok here)
      × (slots_before of (suc slot) ≡ Ok (before + here)) × (before + here ≤ MOST_SLOTS)
  each_counted zero slots slot e below = absurd (omega (arith, below))
  each_counted (suc count) slots slot e below =
      let first = both_give (slots_before of count) (λ n. of count >>= λ m. few_slots (n + m)) slots e in
      let second = both_give (of count) (λ m. few_slots (first.0 + m)) slots first.2 in
      let few = few_gives (first.0 + second.0) slots second.2 in
      let whole : slots_before of (suc count) ≡ Ok (first.0 + second.0) = e ∙ ap so_many (sym few.0) in
      let most : first.0 + second.0 ≤ MOST_SLOTS = omega (arith, few.0, few.1) in
      elim (cases_lt slot count) [
        | inl less ↦ each_counted count first.0 slot first.1 less
        | inr past ↦
            let same : count ≡ slot = omega (arith, below, past) in
            subst (λ (n : ℕ). (before : ℕ) × (here : ℕ) × (slots_before of n ≡ Ok before) × (of n ≡ Ok here)
            × (slots_before of (suc n) ≡ Ok (before + here)) × (before + here ≤ MOST_SLOTS))
            same (first.0, second.0, first.1, second.1, whole, most)
      ]

  -- one slot more
  pub one_counted : (count slots slot before here : ℕ) → slots_before of count ≡ Ok slots → slot < count
      → slots_before of slot ≡ Ok before → of slot ≡ Ok here
      → (slots_before of (slot + 1) ≡ Ok (before + here)) × (before + here ≤ MOST_SLOTS)
  one_counted count slots slot before here counted below so_far told =
      let each = each_counted count slots slot counted below in
      let same_before : so_many each.0 ≡ so_many before = sym each.2 ∙ so_far in
      let same_here : so_many each.1 ≡ so_many here = sym each.3 ∙ told in
      let b : each.0 ≡ before = cc in
      let h : each.1 ≡ here = cc in
      let more : slots_before of (suc slot) ≡ Ok (before + here) = rw (sym b, sym h) each.4 in
      (ap (slots_before of) (add-one slot) ∙ more, omega (arith, b, h, each.5))

-- numbers that are few, and one more
pub pushed_few : (xs : List ℕ) (x : ℕ) → ((k : ℕ) → slice_index xs k ≤ MOST_SLOTS) → x ≤ MOST_SLOTS → (k : ℕ)
    → slice_index (xs ++ x ∷ []) k ≤ MOST_SLOTS
pushed_few [] x all few zero = few
pushed_few [] x all few (suc k) = omega arith
pushed_few (y ∷ xs) x all few zero = all 0
pushed_few (y ∷ xs) x all few (suc k) = pushed_few xs x (λ j. all (suc j)) few k
