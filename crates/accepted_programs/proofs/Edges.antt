-- A step along an edge of an instruction.
use Rattle.std.specs.Prelude.{Bool, true, false, ◌≡◌, ◌<◌, ℕ}
use Rattle.instruction_set.specs.Instruction.{distance_of}
use Rattle.instruction_set.specs.declared.instruction.Instruction.{Instruction}
use Rattle.program_meaning.specs.State.{State}
use Rattle.word_domain.specs.Domain.{Operations}
use Rattle.accepted_programs.specs.Facts.{facts_at_target, facts_behind, leads, slot_behind}
use Rattle.accepted_programs.specs.Meets.{MeetsSome}
use Rattle.accepted_programs.specs.declared.facts.Facts.{Facts}

module _ {D : Type 0} (contains : D → ℕ → Type 0) (operations : Operations D) (block : ℕ) (i : Instruction) (facts : Facts D)
    (s s' : State) where
  -- the second state is at the end of an edge of the instruction, taken or not, and meets what the edge
  -- gives
  abbrev pub IsAlong : Bool → Type 0
  IsAlong false = (slot_behind s.slot i ≡ s'.slot) × MeetsSome contains (facts_behind operations block i facts) s'
  IsAlong true = (leads s.slot (distance_of i) s'.slot ≡ true) × MeetsSome contains (facts_at_target operations block i facts) s'

  -- a step led forward along an edge
  pub record Moved : Type 0 where
    pub taken : Bool
    pub along : IsAlong taken
    pub forward : s.slot < s'.slot
