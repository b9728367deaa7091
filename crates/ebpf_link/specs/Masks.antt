-- Masks that change nothing.
use Rattle.std.specs.Prelude.{ℕ, ℤ, ◌≡◌, ◌<◌, ◌≤◌, ◌-◌, ◌^◌}
use Rattle.accepted_programs.specs.Facts.{fact, source_fact}
use Rattle.accepted_programs.specs.declared.facts.Facts.{Facts}
use Rattle.instruction_set.specs.Instruction.{immediate_word}
use Rattle.instruction_set.specs.declared.instruction.Instruction.{Instruction}
use Rattle.instruction_set.specs.declared.instruction.Instruction.TheVariants as instruction
use Rattle.instruction_set.specs.declared.operation.Operation.{Operation}
use Rattle.instruction_set.specs.declared.operation.Operation.TheVariants.{And}
use Rattle.instruction_set.specs.declared.operation.Width.{Width}
use Rattle.interval_domain.specs.Fact.{ContainsWord}
use Rattle.interval_domain.specs.Intervals.{intervals}
use Rattle.interval_domain.specs.declared.fact.Fact.{Fact}
use Rattle.program_meaning.specs.Word.{computed, result_of}
use Rattle.program_meaning.specs.declared.word.Arithmetic.TheVariants.{Binary}

-- of two numbers that have no bit from some place on, an operation makes another one that has none
abbrev pub AddsNoBits : Operation → Type 0
AddsNoBits operation = (width : Width) (place x y : ℕ) → x < 2 ^ place → y < 2 ^ place → result_of width operation x y < 2 ^ place

-- a mask is ones alone, at most 20 of them, and no less than a number
abbrev pub IsMaskOver : ℕ → ℕ → Type 0
IsMaskOver most mask = (ones : ℕ) × (ones ≤ 20) × (mask ≡ 2 ^ ones - 1) × (most ≤ mask)

-- an AND with a mask leaves in an instruction's destination what it makes of each two words that are known of its operands
abbrev pub IsIdle : Facts Fact → Instruction → Width → ℕ → ℤ → Type 0
IsIdle facts (instruction.Arithmetic width operation dst source) width' dst' mask = (dst' ≡ dst) × ((x y : ℕ)
    → ContainsWord (fact intervals facts dst) x → ContainsWord (source_fact intervals facts source) y
    → let word = computed (Binary width operation) x y in computed (Binary width' And) word (immediate_word mask) ≡ word)
IsIdle facts _ width' dst' mask = ⊥
