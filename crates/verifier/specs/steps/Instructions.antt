-- What is known of an instruction that isn't refused, when the facts along its edges are made.
use Rattle.std.specs.Prelude.{ℕ, ◌≡◌, ◌<◌, ◌+◌, ◌^◌, ◌≤ℤ◌, ◌<ℤ◌, pos, false, Bool, IfSome, Option}
use Rattle.instruction_set.specs.Instruction.{distance_of, target}
use Rattle.instruction_set.specs.declared.instruction.Instruction.{Instruction}
use Rattle.instruction_set.specs.declared.instruction.Instruction.TheVariants.{Call}
use Rattle.instruction_set.specs.declared.instruction.Source.{Source}
use Rattle.instruction_set.specs.declared.operation.Relation.{Relation}
use Rattle.instruction_set.specs.declared.operation.Width.{Width}
use Rattle.program_interface.specs.declared.frame.TheConstants.{FRAME_LENGTH_BYTES}
use Rattle.word_domain.specs.Domain.{Operations}
use Rattle.accepted_programs.specs.Accepted.{turns_away}
use Rattle.accepted_programs.specs.Facts.{compared_fact, fact, greatest_length, is_register, slot_behind}
use Rattle.accepted_programs.specs.declared.facts.Facts.{Facts}

-- a call leaves the bound on the emitted bytes a number that can be counted
abbrev pub CanBeCounted : {D : Type 0} → Operations D → Instruction → Facts D → Type 0
CanBeCounted operations (Call helper) facts = facts.emitted + FRAME_LENGTH_BYTES + greatest_length operations facts < 2 ^ 64
CanBeCounted operations _ facts = Unit {0}

-- what a compare tells of its destination and its source along an edge, which is taken or not, if there is such an edge
abbrev pub told_along : {D : Type 0} → Operations D → Bool → Width → Relation → ℕ → Source → Facts D → Option (D × D)
told_along operations taken width relation dst source facts =
    let compared = compared_fact operations width facts source in
    operations.refine width relation taken (fact operations facts dst) compared (is_register dst source)

-- an instruction leads to slots of a program of this many, and to no others
pub record StaysInside (slots slot : ℕ) (i : Instruction) : Type 0 where
  pub behind : turns_away i ≡ false → slot_behind slot i < slots
  pub first : IfSome (distance_of i) (λ distance. pos 0 ≤ℤ target slot distance)
  pub last : IfSome (distance_of i) (λ distance. target slot distance <ℤ pos slots)
