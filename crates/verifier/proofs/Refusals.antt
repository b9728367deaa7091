-- The first refusal of a program.
use Rattle.std.proofs.Common.{◌≡◌, ℕ, zero, suc, ◌+◌, ◌-◌, ◌<◌, ◌≤◌, List, length, Option, Some, None, add-zero, add-one, add-suc, arith, subst, ap, ◌∙◌}
use Rattle.std.specs.Option.{option_or}
use Rattle.instruction_set.specs.Program.{instruction_at}
use Rattle.instruction_set.specs.declared.instruction.Instruction.{Instruction}
use Rattle.program_interface.specs.RunSizes.{Sizes}
use Rattle.word_domain.specs.Domain.{Operations}
use Rattle.accepted_programs.specs.Accepted.{refusal_at, refusal_below}
use Rattle.accepted_programs.specs.Facts.{facts_at, given_below, gives}
use Rattle.verifier.specs.steps.Rows.{GivesOn, held_at, Rows}
use Rattle.accepted_programs.specs.declared.reason.Refusal.{Refusal}

module _ {D : Type 0} (operations : Operations D) (program : List (Option Instruction)) (sizes : Sizes) where
  abbrev below : ℕ → Option Refusal
  below slot = refusal_below operations program sizes slot

  abbrev here : ℕ → Option Refusal
  here slot = refusal_at operations program sizes slot (instruction_at program slot) (facts_at operations sizes.block program slot)

  -- what is found first stays found
  found_stays : (k slot : ℕ) (refusal : Refusal) → below slot ≡ Some refusal → below (slot + k) ≡ Some refusal
  found_stays zero slot refusal h = rw add-zero h
  found_stays (suc k) slot refusal h =
      rw add-suc (ap (λ o. option_or o (here (slot + k))) (found_stays k slot refusal h))

  -- the refusal of a slot before which none is refused is the first of all
  pub first_found : (n slot : ℕ) (refusal : Refusal) → slot < n → below slot ≡ None → here slot ≡ Some refusal → below n ≡ Some refusal
  first_found n slot refusal inside before is =
      let e : suc slot + (n - suc slot) ≡ n = omega arith in
      subst (λ m. below m ≡ Some refusal) e (found_stays (n - suc slot) (suc slot) refusal (rw before is))

  pub none_more : (slot : ℕ) → below slot ≡ None → here slot ≡ None → below (slot + 1) ≡ None
  none_more slot before is = rw (add-one, before) is

  -- the rows behind a slot that was visited hold what the slots up to it give
  pub rows_more : {Z : Type 0} (slot : ℕ) (rows later : Rows D Z) → slot < length rows
      → ((s : ℕ) → slot ≤ s → s < length rows → held_at rows s ≡ given_below operations sizes.block program slot s)
      → GivesOn operations sizes.block program slot rows later
      → (s : ℕ) → slot + 1 ≤ s → s < length rows → held_at later s ≡ given_below operations sizes.block program (slot + 1) s
  rows_more slot rows later inside old new s behind within = rw add-one
      (new s (omega arith) within
      ∙ ap (λ r. gives operations sizes.block (instruction_at program slot) slot r s (held_at rows s)) (old slot (omega arith) inside)
      ∙ ap (λ r. gives operations sizes.block (instruction_at program slot) slot (facts_at operations sizes.block program slot) s r) (old s (omega arith) within))
