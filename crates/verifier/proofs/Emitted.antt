-- The greatest bound on the group, at one more slot.
use Rattle.std.proofs.Common.{◌≡◌, ℕ, ◌+◌, List, Option, max, refl, add-one}
use Rattle.instruction_set.specs.declared.instruction.Instruction.{Instruction}
use Rattle.word_domain.specs.Domain.{Operations}
use Rattle.accepted_programs.specs.Facts.{facts_at}
use Rattle.accepted_programs.specs.Emitted.{group_in, most_below}

pub most_more : {D : Type 0} (operations : Operations D) (program : List (Option Instruction)) (block slot here sofar : ℕ)
    → here ≡ group_in (facts_at operations block program slot) → sofar ≡ most_below operations program block slot
    → max here sofar ≡ most_below operations program block (slot + 1)
most_more operations program block slot here sofar is before = rw (add-one, is, before) refl
