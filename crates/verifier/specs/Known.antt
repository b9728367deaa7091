-- What `known_facts` gives: what is known at the slots of a program, as far as they are looked at.
use Rattle.std.specs.Prelude.{ℕ, suc, ◌≡◌, ◌<◌, List, length, get_or, Option, Some, None}
use Rattle.instruction_set.specs.declared.instruction.Instruction.{Instruction}
use Rattle.program_interface.specs.RunSizes.{Sizes}
use Rattle.word_domain.specs.Domain.{Operations}
use Rattle.accepted_programs.specs.Accepted.{refusal}
use Rattle.accepted_programs.specs.Facts.{facts_at}
use Rattle.accepted_programs.specs.declared.facts.Facts.{Facts}
use Rattle.accepted_programs.specs.declared.reason.Refusal.{Refusal}

-- how many of so many slots are looked at: those up to the first refusal, all where there is none
abbrev pub looked_at : ℕ → Option Refusal → ℕ
looked_at slots (Some first) = suc first.slot
looked_at slots None = slots

-- the facts at each slot of a program that is looked at, in their order; none at one to which no slot leads
pub record AreFacts {D : Type 0} (operations : Operations D) (program : List (Option Instruction)) (sizes : Sizes) (known : List (Option (Facts D))) : Type 0 where
  pub count : length known ≡ looked_at (length program) (refusal operations program sizes)
  pub facts : (slot : ℕ) → slot < length known → get_or known slot None ≡ facts_at operations sizes.block program slot
