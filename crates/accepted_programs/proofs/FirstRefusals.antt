-- What is refused is the first failure, and what isn't fails nowhere.
use Rattle.std.proofs.Common.{◌≡◌, ℕ, zero, suc, ◌<◌, List, length, Option, Some, None, IsSome, refl, ◌∙◌, subst, arith, inl, inr}
use Rattle.std.proofs.lemmas.Bool.{cases_lt}
use Rattle.std.specs.Option.{option_map, option_or}
use Rattle.instruction_set.specs.Program.{instruction_at}
use Rattle.instruction_set.specs.declared.instruction.Instruction.{Instruction}
use Rattle.instruction_set.proofs.Proved.{begins_inside}
use Rattle.program_interface.specs.RunSizes.{Sizes}
use Rattle.word_domain.specs.Domain.{Operations}
use Rattle.accepted_programs.specs.Accepted.{all_reasons, fails, reason_of, refusal_at, refusal_below, refused_at}
use Rattle.accepted_programs.specs.Facts.{facts_at}
use Rattle.accepted_programs.specs.FirstRefusal.{HasFacts, IsFirstRefusal, IsPassed}
use Rattle.accepted_programs.specs.Laws.{AcceptedFailsNowhere, RefusalIsFirst, RefusalIsInside}
use Rattle.accepted_programs.specs.declared.facts.Facts.{Facts}
use Rattle.accepted_programs.specs.declared.reason.Reason.{Reason}
use Rattle.accepted_programs.specs.declared.reason.Refusal.{Refusal}
use Rattle.common_definitions.proofs.Proved.{found_passes, less_fails}
use Rattle.accepted_programs.proofs.Refusals.{are_numbered, none_holds}

none_before : (before last : Option Refusal) → option_or before last ≡ None → (before ≡ None) × (last ≡ None)
none_before None last e = (refl, e)
none_before (Some r) last e = cc

module _ {D : Type 0} (operations : Operations D) (program : List (Option Instruction)) (sizes : Sizes) where
  abbrev IsFirst : Refusal → Type 0
  IsFirst r = IsFirstRefusal operations program sizes r

  abbrev IsPassedAt : ℕ → Type 0
  IsPassedAt slot = IsPassed operations program sizes slot

  abbrev below : ℕ → Option Refusal
  below n = refusal_below operations program sizes n

  abbrev at : ℕ → Option Instruction → Option (Facts D) → Option Refusal
  at slot i facts = refusal_at operations program sizes slot i facts

  -- ---- no refusal

  no_reason : (slot : ℕ) (reason : Option Reason) → option_map (refused_at slot) reason ≡ None → reason ≡ None
  no_reason slot None e = refl
  no_reason slot (Some reason) e = cc

  passes_here : (slot : ℕ) → at slot (instruction_at program slot) (facts_at operations sizes.block program slot) ≡ None → IsPassedAt slot
  passes_here slot e i facts has =
      let none : option_map (refused_at slot) (reason_of operations program sizes slot facts i) ≡ None =
      rw (has.begins, has.are) at e in
      none_holds operations program sizes slot facts i (no_reason slot (reason_of operations program sizes slot facts i) none)

  passes_below : (n slot : ℕ) → below n ≡ None → slot < n → IsPassedAt slot
  passes_below zero slot e less = absurd (omega (arith, less))
  passes_below (suc n) slot e less =
      let none = none_before (below n) (at n (instruction_at program n) (facts_at operations sizes.block program n)) e in
      elim (cases_lt slot n) [
        | inl inside ↦ passes_below n slot none.0 inside
        | inr past ↦ let same : n ≡ slot = omega (arith, less, past) in subst IsPassedAt same (passes_here n none.1)
      ]

  -- ---- a refusal

  first_reason : (slot : ℕ) (i : Instruction) (facts : Facts D) (reason : Reason) → HasFacts operations program sizes slot i facts
      → reason_of operations program sizes slot facts i ≡ Some reason → ((s : ℕ) → s < slot → IsPassedAt s)
      → IsFirst (refused_at slot reason)
  first_reason slot i facts reason has e lower = record {
    instruction = i;
    facts = facts;
    known = has;
    holds = found_passes (fails operations program sizes slot facts i) all_reasons reason e;
    least = λ other less. less_fails are_numbered (fails operations program sizes slot facts i) reason other e less;
    lowest = lower;
  }

  first_told : (slot : ℕ) (i : Instruction) (facts : Facts D) (reason : Option Reason) (r : Refusal) → HasFacts operations program sizes slot i facts
      → reason_of operations program sizes slot facts i ≡ reason → option_map (refused_at slot) reason ≡ Some r
      → ((s : ℕ) → s < slot → IsPassedAt s) → IsFirst r
  first_told slot i facts None r has is e lower = cc
  first_told slot i facts (Some reason) r has is e lower =
      let same : refused_at slot reason ≡ r = cc in
      subst IsFirst same (first_reason slot i facts reason has is lower)

  first_here : (slot : ℕ) (i : Option Instruction) (facts : Option (Facts D)) (r : Refusal) → instruction_at program slot ≡ i
      → facts_at operations sizes.block program slot ≡ facts → at slot i facts ≡ Some r → ((s : ℕ) → s < slot → IsPassedAt s) → IsFirst r
  first_here slot (Some i) (Some facts) r begins known e lower =
      first_told slot i facts (reason_of operations program sizes slot facts i) r (record { begins = begins; are = known }) refl e lower
  first_here slot (Some i) None r begins known e lower = cc
  first_here slot None facts r begins known e lower = cc

  either_first : (n : ℕ) (before : Option Refusal) (r : Refusal) → below n ≡ before
      → option_or before (at n (instruction_at program n) (facts_at operations sizes.block program n)) ≡ Some r → (below n ≡ Some r → IsFirst r) → IsFirst r
  either_first n (Some first) r is e earlier = earlier (is ∙ e)
  either_first n None r is e earlier =
      first_here n (instruction_at program n) (facts_at operations sizes.block program n) r refl refl e (λ s less. passes_below n s is less)

  first_below : (n : ℕ) (r : Refusal) → below n ≡ Some r → IsFirst r
  first_below zero r e = cc
  first_below (suc n) r e = either_first n (below n) r refl e (first_below n r)

module _ {D : Type 0} (operations : Operations D) where
  pub refusal_is_first : RefusalIsFirst operations
  refusal_is_first program sizes r e = first_below operations program sizes (length program) r e

  begins_by : (i : Instruction) (found : Option Instruction) → found ≡ Some i → IsSome found
  begins_by i found e = rw e refl

  pub refusal_inside : RefusalIsInside operations
  refusal_inside program is sizes r e =
      let first = refusal_is_first program sizes r e in
      let inside = begins_inside program r.slot (begins_by first.instruction (instruction_at program r.slot) first.known.begins) in
      let most = is.most in
      (inside, omega (arith, inside, most))

  pub accepted_fails_nowhere : AcceptedFailsNowhere operations
  accepted_fails_nowhere program sizes e slot i facts has =
      passes_below operations program sizes (length program) slot e
      (begins_inside program slot (begins_by i (instruction_at program slot) has.begins)) i facts has
