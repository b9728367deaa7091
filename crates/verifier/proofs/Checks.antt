-- What an instruction does that no reason refuses.
use Rattle.std.proofs.Common.{ℕ, ℤ, ◌+◌, ◌≡◌, ◌<◌, ◌≤◌, ◌^◌, ◌<ℤ◌, ◌≤ℤ◌, Bool, true, false, List, length, Option, Some, None, pos, negsuc, arith, IfSome, not, nat_lt, ◌&&◌, if◌then◌else◌}
use Rattle.std.proofs.Math.Facts.{yes_leb, yes_ltb}
use Rattle.std.proofs.lemmas.Bool.{not-false}
use Rattle.std.proofs.lemmas.Bool.Decides.{nat_tests}
use Rattle.instruction_set.specs.Instruction.{distance_of, is_emit, target}
use Rattle.instruction_set.proofs.Proved.{begins_inside}
use Rattle.instruction_set.specs.declared.instruction.Instruction.{Instruction}
use Rattle.instruction_set.specs.declared.instruction.Instruction.TheVariants.{Call}
use Rattle.program_interface.specs.declared.block_size.TheConstants.{LARGEST_BLOCK}
use Rattle.program_interface.specs.declared.frame.TheConstants.{FRAME_LENGTH_BYTES}
use Rattle.program_interface.specs.RunSizes.{Sizes}
use Rattle.word_domain.specs.Domain.{Operations}
use Rattle.accepted_programs.specs.Accepted.{begins_at, fails, leads_nowhere, reason_of, turns_away}
use Rattle.verifier.specs.steps.Instructions.{CanBeCounted, StaysInside}
use Rattle.accepted_programs.specs.Facts.{greatest_length, slot_behind}
use Rattle.accepted_programs.proofs.Proved.{no_reason_holds}
use Rattle.accepted_programs.specs.declared.facts.Facts.{Facts}
use Rattle.accepted_programs.specs.declared.reason.Reason.{Reason}
use Rattle.accepted_programs.specs.declared.reason.Reason.TheVariants.{JumpOutside, FallsOff, UnknownHelper, EmitLimit}

inside_first : (program : List (Option Instruction)) (z : ℤ) → begins_at program z ≡ true → pos 0 ≤ℤ z
inside_first program (pos n) e = record { le = yes_leb (omega arith) }
inside_first program (negsuc n) e = cc

inside_last : (program : List (Option Instruction)) (z : ℤ) → begins_at program z ≡ true → z <ℤ pos (length program)
inside_last program (pos n) e = record { lt = yes_ltb (begins_inside program n e) }
inside_last program (negsuc n) e = cc

otherwise : (b c : Bool) → b ≡ false → (if b then false else c) ≡ false → c ≡ false
otherwise true c is e = cc
otherwise false c is e = e

goes_first : (program : List (Option Instruction)) (slot : ℕ) (distance : Option ℤ) → leads_nowhere program slot distance ≡ false
    → IfSome distance (λ d. pos 0 ≤ℤ target slot d)
goes_first program slot (Some d) e = inside_first program (target slot d) (not-false _ e)
goes_first program slot None e = tt

goes_last : (program : List (Option Instruction)) (slot : ℕ) (distance : Option ℤ) → leads_nowhere program slot distance ≡ false
    → IfSome distance (λ d. target slot d <ℤ pos (length program))
goes_last program slot (Some d) e = inside_last program (target slot d) (not-false _ e)
goes_last program slot None e = tt

within_limit : (emit : Bool) (limit most : ℕ) → not emit ≡ false → (emit && nat_lt limit most) ≡ false → limit ≤ LARGEST_BLOCK
    → most < 2 ^ 64
within_limit true limit most is e fits = grind (arith, nat_tests, e, fits)
within_limit false limit most is e fits = cc

module _ {D : Type 0} (operations : Operations D) where
  module _ (program : List (Option Instruction)) (sizes : Sizes) (slot : ℕ) (facts : Facts D) (i : Instruction)
      (none : reason_of operations program sizes slot facts i ≡ None) where
    free : (reason : Reason) → fails operations program sizes slot facts i reason ≡ false
    free = no_reason_holds operations program sizes slot facts i none

    pub stays_inside : StaysInside (length program) slot i
    stays_inside = record {
      behind = λ goes_on. begins_inside program (slot_behind slot i)
          (not-false _ (otherwise (turns_away i) _ goes_on (free FallsOff)));
      first = goes_first program slot (distance_of i) (free JumpOutside);
      last = goes_last program slot (distance_of i) (free JumpOutside);
    }

  pub can_be_counted : (program : List (Option Instruction)) (sizes : Sizes) (slot : ℕ) (facts : Facts D) (i : Instruction)
      → reason_of operations program sizes slot facts i ≡ None → sizes.limit ≤ LARGEST_BLOCK → CanBeCounted operations i facts
  can_be_counted program sizes slot facts (Call helper) none fits =
      within_limit (is_emit (Call helper)) sizes.limit (facts.emitted + FRAME_LENGTH_BYTES + greatest_length operations facts)
      (free program sizes slot facts (Call helper) none UnknownHelper)
      (free program sizes slot facts (Call helper) none EmitLimit) fits
  can_be_counted program sizes slot facts i none fits = tt
