-- Sums in place of ORs.
use Rattle.std.specs.Prelude.{ℕ, ◌≡◌}
use Rattle.accepted_programs.specs.Facts.{fact, source_fact}
use Rattle.accepted_programs.specs.declared.facts.Facts.{Facts}
use Rattle.instruction_set.specs.declared.instruction.Instruction.{Instruction}
use Rattle.instruction_set.specs.declared.instruction.Instruction.TheVariants.{Arithmetic}
use Rattle.instruction_set.specs.declared.operation.Operation.TheVariants.{Add, Or}
use Rattle.instruction_set.specs.declared.operation.Width.TheVariants.{Bits64}
use Rattle.interval_domain.specs.Fact.{ContainsWord}
use Rattle.interval_domain.specs.Intervals.{intervals}
use Rattle.interval_domain.specs.declared.fact.Fact.{Fact}
use Rattle.program_meaning.specs.Word.{computed}
use Rattle.program_meaning.specs.declared.word.Arithmetic.TheVariants.{Binary}

-- the same arithmetic, as a sum
abbrev pub sum_of : Instruction → Instruction
sum_of (Arithmetic width operation dst source) = Arithmetic width Add dst source
sum_of other = other

-- an OR of two words is their sum
abbrev pub IsSum : ℕ → ℕ → Type 0
IsSum x y = computed (Binary Bits64 Or) x y ≡ computed (Binary Bits64 Add) x y

-- and so it is of each two words of two facts
abbrev pub AreSums : Fact → Fact → Type 0
AreSums first second = (x y : ℕ) → ContainsWord first x → ContainsWord second y → IsSum x y

-- a sum in place of an OR that it is, for all words that are known of the operands
abbrev pub IsSumOf : Facts Fact → Instruction → Instruction → Type 0
IsSumOf facts (Arithmetic Bits64 Or dst source) other =
    (other ≡ Arithmetic Bits64 Add dst source) × AreSums (fact intervals facts dst) (source_fact intervals facts source)
IsSumOf facts _ other = ⊥
