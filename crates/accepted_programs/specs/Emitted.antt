-- How many bytes a group is known to have.
use Rattle.std.specs.Prelude.{ℕ, zero, suc, List, length, max, Option, Some, None}
use Rattle.instruction_set.specs.declared.instruction.Instruction.{Instruction}
use Rattle.word_domain.specs.Domain.{Operations}
use Rattle.accepted_programs.specs.Facts.{facts_at}
use Rattle.accepted_programs.specs.declared.facts.Facts.{Facts}

-- the bound on the group, where there are facts
abbrev pub group_in : {D : Type 0} → Option (Facts D) → ℕ
group_in (Some facts) = facts.emitted
group_in None = 0

module _ {D : Type 0} (operations : Operations D) (program : List (Option Instruction)) where
  -- the greatest bound on the group at the slots below this one, beside a block of this length
  abbrev pub most_below : ℕ → ℕ → ℕ
  most_below block zero = 0
  most_below block (suc slot) = max (group_in (facts_at operations block program slot)) (most_below block slot)

  -- the most bytes that a group is known to have, at any slot of a program
  abbrev pub most_emitted : ℕ → ℕ
  most_emitted block = most_below block (length program)
