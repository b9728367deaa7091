-- How the slots of what is called are counted, and that no chain of calls is longer than is told.
use Rattle.std.proofs.Common.{◌≡◌, ◌∙◌, ℕ, zero, suc, ◌+◌, ◌<◌, ◌≤◌, List, [], ◌∷◌, length, Result, Ok, Err, inl, inr, refl, ap, arith, subst, sym}
use Rattle.std.proofs.lemmas.Bool.{cases_lt}
use Rattle.common_definitions.specs.Readings.{◌>>=◌}
use Rattle.ebpf_gather.specs.CallTrees.{IsShallow, body_slots, few_slots, slots_at, slots_before, slots_of, tree_slots}
use Rattle.ebpf_gather.specs.declared.fault.CallFault.{CallFault}
use Rattle.ebpf_gather.specs.declared.fault.CallFault.TheVariants as faults
use Rattle.ebpf_gather.specs.declared.fault.ReferenceFault.{ReferenceFault}
use Rattle.ebpf_gather.specs.declared.reference.Reference.{Reference}
use Rattle.ebpf_object.specs.declared.function.Function.{Function}

-- where one reading after another gives something, each does
both_give : {E X Y : Type 0} (read : Result X E) (next : X → Result Y E) (y : Y) → (read >>= next) ≡ Ok y → (x : X) × (read ≡ Ok x) × (next x ≡ Ok y)
both_give (Ok x) next y e = (x, refl, e)
both_give (Err fault) next y e = absurd cc

module _ (of : ℕ → Result ℕ CallFault) where
  -- one slot more, where the ones before are counted
  pub one_more : (slot before called : ℕ) → slots_before of slot ≡ Ok before → of slot ≡ Ok called
      → slots_before of (suc slot) ≡ few_slots (before + 1 + called)
  one_more slot before called counted here =
      ap (λ (r : Result ℕ CallFault). r >>= λ n. of slot >>= λ m. few_slots (n + 1 + m)) counted
      ∙ ap (λ (r : Result ℕ CallFault). r >>= λ m. few_slots (before + 1 + m)) here

  -- and one that has a fault
  pub one_wrong : (slot before : ℕ) (fault : CallFault) → slots_before of slot ≡ Ok before → of slot ≡ Err fault
      → slots_before of (suc slot) ≡ Err fault
  one_wrong slot before fault counted here =
      ap (λ (r : Result ℕ CallFault). r >>= λ n. of slot >>= λ m. few_slots (n + 1 + m)) counted
      ∙ ap (λ (r : Result ℕ CallFault). r >>= λ m. few_slots (before + 1 + m)) here

  -- the first fault stays the first, however many more are counted
  pub fault_stays : (slot count : ℕ) (fault : CallFault) → slots_before of (suc slot) ≡ Err fault → slot < count
      → slots_before of count ≡ Err fault
  fault_stays slot zero fault wrong below = absurd (omega (arith, below))
  fault_stays slot (suc count) fault wrong below =
      elim (cases_lt slot count) [
        | inl less ↦
            ap (λ (r : Result ℕ CallFault). r >>= λ n. of count >>= λ m. few_slots (n + 1 + m)) (fault_stays slot count fault wrong less)
        | inr past ↦
            let same : slot ≡ count = omega (arith, below, past) in
            subst (λ (n : ℕ). slots_before of (suc n) ≡ Err fault) same wrong
      ]

  -- where all are counted, each is
  each_counted : (count slots slot : ℕ) → slots_before of count ≡ Ok slots → slot < count → (called : ℕ) × (of slot ≡ Ok called)
  each_counted zero slots slot e below = absurd (omega (arith, below))
  each_counted (suc count) slots slot e below =
      let first = both_give (slots_before of count) (λ n. of count >>= λ m. few_slots (n + 1 + m)) slots e in
      let second = both_give (of count) (λ m. few_slots (first.0 + 1 + m)) slots first.2 in
      elim (cases_lt slot count) [
        | inl less ↦ each_counted count first.0 slot first.1 less
        | inr past ↦
            let same : count ≡ slot = omega (arith, below, past) in
            subst (λ (n : ℕ). (called : ℕ) × (of n ≡ Ok called)) same (second.0, second.1)
      ]

module _ (bytes : List ℕ) (symbols : ℕ) where
  -- those of a function are those of its body, where a chain of calls may go on
  pub tree_is : (depth : ℕ) (function : Function)
      → tree_slots bytes symbols (suc depth) function ≡ body_slots (tree_slots bytes symbols depth) bytes symbols function
  unfolding tree_slots
  tree_is depth function = refl

  -- and where it may not, it is too deep
  pub tree_ends : (function : Function) → tree_slots bytes symbols zero function ≡ Err (faults.TooDeep function)
  unfolding tree_slots
  tree_ends function = refl

  -- where the slots are counted, no chain of calls is longer
  pub are_shallow : (depth : ℕ) (function : Function) (slots : ℕ) → tree_slots bytes symbols depth function ≡ Ok slots
      → IsShallow bytes symbols depth function
  are_shallow zero function slots e rest chain =
      let told : Err (faults.TooDeep function) ≡ Ok slots = sym (tree_ends function) ∙ e in
      absurd cc
  are_shallow (suc depth) function slots e [] chain = omega arith
  are_shallow (suc depth) function slots e (callee ∷ rest) chain =
      let tree = tree_slots bytes symbols depth in
      let slot : ℕ = chain.0.0 in
      let counted = each_counted (slots_at tree bytes symbols function) function.slots slots slot (sym (tree_is depth function) ∙ e) chain.0.1.0 in
      let called : tree callee ≡ Ok counted.0
      = sym (ap (λ (r : Result Reference ReferenceFault). slots_of tree function slot r) chain.0.1.1) ∙ counted.1 in
      let below : 1 + length rest ≤ depth = are_shallow depth callee counted.0 called rest chain.1 in
      omega (arith, below)
