-- How the slots of a function are counted.
use Rattle.std.proofs.Common.{◌≡◌, ◌∙◌, ℕ, zero, suc, ◌+◌, ◌<◌, Result, Ok, Err, inl, inr, refl, ap, arith, subst}
use Rattle.std.proofs.lemmas.Bool.{cases_lt}
use Rattle.common_definitions.specs.Checks.{first_failed}
use Rattle.common_definitions.specs.Readings.{◌>>=◌, unless_fault}
use Rattle.std.specs.Prelude.{Option, None, Some}
use Rattle.ebpf_inline.specs.Sizes.{body_slots, callee_slots, few_slots, frame_checks, slots_before, tree_slots, within}
use Rattle.ebpf_inline.specs.declared.unit_fault.UnitFault.{UnitFault}
use Rattle.ebpf_inline.specs.declared.unit_fault.UnitFault.TheVariants as faults
use Rattle.ebpf_inline.specs.declared.frame.Frame.{Frame}
use Rattle.ebpf_inline.specs.declared.unit.TranslationUnit.{TranslationUnit}

module _ (of : ℕ → Result ℕ UnitFault) where
  -- those of one slot more, where the ones before are counted
  pub one_more : (slot before here : ℕ) → slots_before of slot ≡ Ok before → of slot ≡ Ok here
      → slots_before of (suc slot) ≡ few_slots (before + here)
  one_more slot before here counted told =
      ap (λ (r : Result ℕ UnitFault). r >>= λ n. of slot >>= λ m. few_slots (n + m)) counted
      ∙ ap (λ (r : Result ℕ UnitFault). r >>= λ m. few_slots (before + m)) told

  -- and of one that has a fault
  pub one_wrong : (slot before : ℕ) (fault : UnitFault) → slots_before of slot ≡ Ok before → of slot ≡ Err fault
      → slots_before of (suc slot) ≡ Err fault
  one_wrong slot before fault counted told =
      ap (λ (r : Result ℕ UnitFault). r >>= λ n. of slot >>= λ m. few_slots (n + m)) counted
      ∙ ap (λ (r : Result ℕ UnitFault). r >>= λ m. few_slots (before + m)) told

  -- the first fault stays the first, however many more are counted
  pub fault_stays : (slot count : ℕ) (fault : UnitFault) → slots_before of (suc slot) ≡ Err fault → slot < count
      → slots_before of count ≡ Err fault
  fault_stays slot zero fault wrong below = absurd (omega (arith, below))
  fault_stays slot (suc count) fault wrong below =
      elim (cases_lt slot count) [
        | inl less ↦
            ap (λ (r : Result ℕ UnitFault). r >>= λ n. of count >>= λ m. few_slots (n + m)) (fault_stays slot count fault wrong less)
        | inr past ↦
            let same : slot ≡ count = omega (arith, below, past) in
            subst (λ (n : ℕ). slots_before of (suc n) ≡ Err fault) same wrong
      ]

module _ (unit : TranslationUnit) (room : ℕ) (frame : Frame) where
  -- those of a function are those of its slots, where there may be a frame
  pub tree_is : (depth : ℕ) → first_failed (frame_checks unit room frame) ≡ None
      → tree_slots unit room (suc depth) frame ≡ body_slots (callee_slots unit room (within frame depth)) unit frame.function
  unfolding tree_slots
  tree_is depth none =
      let body = body_slots (callee_slots unit room (within frame depth)) unit frame.function in
      ap (λ (o : Option UnitFault). unless_fault o body) none

  -- where there may be none, that is why
  pub tree_has_none : (depth : ℕ) (fault : UnitFault) → first_failed (frame_checks unit room frame) ≡ Some fault
      → tree_slots unit room (suc depth) frame ≡ Err fault
  unfolding tree_slots
  tree_has_none depth fault some =
      let body = body_slots (callee_slots unit room (within frame depth)) unit frame.function in
      ap (λ (o : Option UnitFault). unless_fault o body) some

  -- where there may be no frame more, it is too deep
  pub tree_ends : tree_slots unit room zero frame ≡ Err (faults.TooDeep frame.function)
  unfolding tree_slots
  tree_ends = refl
