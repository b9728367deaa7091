-- What a refusal tells: which reason holds, where, and that none does before it.
use Rattle.std.specs.Prelude.{ℕ, ◌≡◌, ◌<◌, true, false, List, Option, Some}
use Rattle.instruction_set.specs.Program.{instruction_at}
use Rattle.instruction_set.specs.declared.instruction.Instruction.{Instruction}
use Rattle.program_interface.specs.RunSizes.{Sizes}
use Rattle.word_domain.specs.Domain.{Operations}
use Rattle.accepted_programs.specs.Accepted.{fails, reason_number}
use Rattle.accepted_programs.specs.Facts.{facts_at}
use Rattle.accepted_programs.specs.declared.facts.Facts.{Facts}
use Rattle.accepted_programs.specs.declared.reason.Reason.{Reason}
use Rattle.accepted_programs.specs.declared.reason.Refusal.{Refusal}

module _ {D : Type 0} (operations : Operations D) (program : List (Option Instruction)) (sizes : Sizes) where
  -- this instruction begins at a slot, and these are the facts there
  pub record HasFacts (slot : ℕ) (i : Instruction) (facts : Facts D) : Type 0 where
    pub begins : instruction_at program slot ≡ Some i
    pub are : facts_at operations sizes.block program slot ≡ Some facts

  -- no reason holds at a slot; one without an instruction or without facts is passed always
  abbrev pub IsPassed : ℕ → Type 0
  IsPassed slot = (i : Instruction) (facts : Facts D) → HasFacts slot i facts
      → (reason : Reason) → fails operations program sizes slot facts i reason ≡ false

  -- a refusal
  pub record IsFirstRefusal (refusal : Refusal) : Type 0 where
    -- of an instruction at its slot,
    pub instruction : Instruction
    pub facts : Facts D
    pub known : HasFacts refusal.slot instruction facts
    -- where its reason holds,
    pub holds : fails operations program sizes refusal.slot facts instruction refusal.reason ≡ true
    -- and none with a smaller number;
    pub least : (reason : Reason) → reason_number reason < reason_number refusal.reason
        → fails operations program sizes refusal.slot facts instruction reason ≡ false
    -- each lower slot is passed
    pub lowest : (slot : ℕ) → slot < refusal.slot → IsPassed slot
