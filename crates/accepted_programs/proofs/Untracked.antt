-- What is known of registers together where sums are tracked, and where they aren't: there it is nothing.
use Rattle.std.proofs.Common.{ℕ, ℤ, zero, suc, ◌≡◌, ◌==◌, false, List, Option, Some, None, refl, IfSome, option_map}
use Rattle.std.proofs.lemmas.Bool.{cond_both}
use Rattle.std.specs.Option.{option_or}
use Rattle.instruction_set.specs.Instruction.{distance_of, size_of}
use Rattle.instruction_set.specs.Program.{instruction_at}
use Rattle.instruction_set.specs.declared.instruction.Instruction.{Instruction}
use Rattle.instruction_set.specs.declared.instruction.Instruction.TheVariants.{StoreImmediate, StoreRegister, Jump, JumpLong, Branch, Call}
use Rattle.instruction_set.specs.declared.instruction.Source.{Source}
use Rattle.instruction_set.specs.declared.instruction.Source.TheVariants.{Immediate, Register}
use Rattle.instruction_set.specs.declared.operation.Size.{Size}
use Rattle.word_domain.specs.Domain.{Operations}
use Rattle.accepted_programs.specs.Facts.{after_store, area_of, computed_word, enters_stack, facts_at_start, facts_at_target, facts_behind, given_below, gives, leads, loaded_word, merge, slot_behind, tracked, with_both, with_sums, with_word}
use Rattle.accepted_programs.specs.Laws.{JudgesWithoutSums}
use Rattle.accepted_programs.specs.declared.facts.Facts.{Facts}

-- of registers together nothing is known
abbrev NoneTogether : {D : Type 0} → Facts D → Type 0
NoneTogether facts = (facts.sum ≡ None) × (facts.fit ≡ None)

module _ {D : Type 0} (operations : Operations D) where
  -- what holds of nothing, and of what is known, holds of what is tracked of it
  pub tracked_holds : {A : Type 0} (P : Option A → Type 0) (known : Option A) → P None → P known → P (tracked operations known)
  tracked_holds P known none some = cond_both operations.tracks_sums known None P (λ _. some) (λ _. none)

  module _ (off : operations.tracks_sums ≡ false) where
    untracked : {A : Type 0} (known : Option A) → tracked operations known ≡ None
    untracked known = rw off refl

    word_none : (i : Instruction) (facts : Facts D) (word : Option (ℕ × D))
        → IfSome (option_map (with_sums operations i facts) (with_word operations facts word)) NoneTogether
    word_none i facts (Some word) = (untracked _, untracked _)
    word_none i facts None = tt

    both_none : (facts : Facts D) (dst : ℕ) (source : Source) (both : Option (D × D)) → NoneTogether facts
        → IfSome (with_both operations facts dst source both) NoneTogether
    both_none facts dst (Register r) (Some both) none = (none.0, untracked _)
    both_none facts dst (Immediate z) (Some both) none = (none.0, untracked _)
    both_none facts dst source None none = tt

    stored_none : (block : ℕ) (facts : Facts D) (size : Size) (dst : ℕ) (offset : ℤ) (word : Option D) → NoneTogether facts
        → NoneTogether (after_store operations block facts size dst offset word)
    stored_none block facts size dst offset word none =
        cond_both (enters_stack (area_of operations block facts dst offset (size_of size))) _ facts NoneTogether (λ _. none) (λ _. none)

    merge_none : (a b : Option (Facts D)) → IfSome a NoneTogether → IfSome b NoneTogether → IfSome (merge operations a b) NoneTogether
    merge_none (Some a) (Some b) first second = (refl, untracked _)
    merge_none (Some a) None first second = first
    merge_none None b first second = second

    module _ (block : ℕ) where
      behind_none : (i : Instruction) (facts : Facts D) → NoneTogether facts → IfSome (facts_behind operations block i facts) NoneTogether
      behind_none (StoreImmediate size dst offset value) facts none = stored_none block facts size dst offset _ none
      behind_none (StoreRegister size dst src offset) facts none = stored_none block facts size dst offset _ none
      behind_none (Branch width relation dst source distance) facts none = both_none facts dst source _ none
      behind_none (Call helper) facts none = (untracked _, untracked _)
      behind_none i facts none = word_none i facts (option_or (loaded_word operations i facts) (computed_word operations i facts))

      target_none : (i : Instruction) (facts : Facts D) → NoneTogether facts → IfSome (facts_at_target operations block i facts) NoneTogether
      target_none (Jump distance) facts none = none
      target_none (JumpLong distance) facts none = none
      target_none (Branch width relation dst source distance) facts none = both_none facts dst source _ none
      target_none i facts none = tt

      gives_none : (i : Option Instruction) (slot : ℕ) (facts : Option (Facts D)) (other : ℕ) (sofar : Option (Facts D))
          → IfSome facts NoneTogether → IfSome sofar NoneTogether → IfSome (gives operations block i slot facts other sofar) NoneTogether
      gives_none (Some i) slot (Some facts) other sofar none before =
          let P : Option (Facts D) → Type 0 = λ o. IfSome o NoneTogether in
          merge_none _ _
          (merge_none sofar _ before (cond_both (slot_behind slot i == other) _ None P (λ _. behind_none i facts none) (λ _. tt)))
          (cond_both (leads slot (distance_of i) other) _ None P (λ _. target_none i facts none) (λ _. tt))
      gives_none (Some i) slot None other sofar none before = before
      gives_none None slot facts other sofar none before = before

      given_none : (program : List (Option Instruction)) (slot other : ℕ) → IfSome (given_below operations block program slot other) NoneTogether
      given_none program zero other =
          cond_both (other == 0) (Some (facts_at_start operations)) None (λ o. IfSome o NoneTogether) (λ _. (refl, refl)) (λ _. tt)
      given_none program (suc slot) other =
          gives_none (instruction_at program slot) slot (given_below operations block program slot slot) other
          (given_below operations block program slot other) (given_none program slot slot) (given_none program slot other)

  pub judges_without_sums : JudgesWithoutSums operations
  judges_without_sums off block program slot = given_none off block program slot slot
