-- Arithmetic that changes nothing.
use Rattle.std.specs.Prelude.{ℕ, ◌≡◌, ◌<◌, ◌≤◌, ◌^◌}
use Rattle.accepted_programs.specs.Facts.{fact, source_fact}
use Rattle.accepted_programs.specs.declared.facts.Facts.{Facts}
use Rattle.instruction_set.specs.declared.instruction.Instruction.{Instruction}
use Rattle.instruction_set.specs.declared.instruction.Instruction.TheVariants.{Arithmetic}
use Rattle.instruction_set.specs.declared.instruction.Source.TheVariants.{Register}
use Rattle.instruction_set.specs.declared.operation.Operation.{Operation}
use Rattle.instruction_set.specs.declared.operation.Width.{Width}
use Rattle.interval_domain.specs.Fact.{ContainsWord}
use Rattle.interval_domain.specs.Intervals.{intervals}
use Rattle.interval_domain.specs.declared.fact.Fact.{Fact}
use Rattle.program_meaning.specs.Word.{bits, computed, low_bits, result_of}
use Rattle.program_meaning.specs.declared.word.Arithmetic.TheVariants.{Binary}

-- an operation gives its first operand, where the second is 0
abbrev pub IsIdleByZero : Operation → Type 0
IsIdleByZero operation = (width : Width) (n : ℕ) → n < 2 ^ bits width → result_of width operation n 0 ≡ n

-- an instruction of a width takes all bits of each number that is at most so much
abbrev pub IsWhole : Width → ℕ → Type 0
IsWhole width most = (n : ℕ) → n ≤ most → low_bits width n ≡ n

-- arithmetic leaves in its destination what that has, for each two words that are known of its operands
abbrev pub LeavesAsIs : Facts Fact → Instruction → Type 0
LeavesAsIs facts (Arithmetic width operation dst source) = (x y : ℕ)
    → ContainsWord (fact intervals facts dst) x → ContainsWord (source_fact intervals facts source) y → (source ≡ Register dst → x ≡ y)
    → computed (Binary width operation) x y ≡ x
LeavesAsIs facts _ = ⊥
