-- Instructions of 64 bits in place of such of 32 bits.
use Rattle.std.specs.Prelude.{ℕ, ◌≡◌, ◌<◌, ◌+◌, ◌^◌, ◌⊎◌}
use Rattle.accepted_programs.specs.Facts.{fact, source_fact}
use Rattle.accepted_programs.specs.declared.facts.Facts.{Facts}
use Rattle.instruction_set.specs.declared.instruction.Instruction.{Instruction}
use Rattle.instruction_set.specs.declared.instruction.Instruction.TheVariants.{Arithmetic, Branch}
use Rattle.instruction_set.specs.declared.instruction.Source.{Source}
use Rattle.instruction_set.specs.declared.operation.Relation.{Relation}
use Rattle.instruction_set.specs.declared.operation.Width.TheVariants.{Bits32, Bits64}
use Rattle.interval_domain.specs.Fact.{ContainsWord}
use Rattle.interval_domain.specs.Intervals.{intervals}
use Rattle.interval_domain.specs.declared.fact.Fact.{Fact}
use Rattle.program_meaning.specs.Word.{computed, is_taken}
use Rattle.program_meaning.specs.declared.word.Arithmetic.TheVariants.{Binary}

-- each word that is known of an operand has 32 bits
abbrev pub IsSmall : Facts Fact → Source → Type 0
IsSmall facts source = (y : ℕ) → ContainsWord (source_fact intervals facts source) y → y < 2 ^ 32

-- the sum of each two words that are known of two operands has 32 bits
abbrev pub AreSmall : Facts Fact → ℕ → Source → Type 0
AreSmall facts dst source = (x y : ℕ)
    → ContainsWord (fact intervals facts dst) x → ContainsWord (source_fact intervals facts source) y → x + y < 2 ^ 32

-- a relation is the same by 32 and by 64 bits of numbers that have 32
abbrev pub IsUnsigned : Relation → Type 0
IsUnsigned relation = (x y : ℕ) → x < 2 ^ 32 → y < 2 ^ 32 → is_taken Bits64 relation x y ≡ is_taken Bits32 relation x y

-- an instruction computes, or compares, by 64 bits the same of each two words that are known of its operands
abbrev pub IsSameWide : Facts Fact → Instruction → Type 0
IsSameWide facts (Arithmetic width operation dst source) = (x y : ℕ)
    → ContainsWord (fact intervals facts dst) x → ContainsWord (source_fact intervals facts source) y
    → computed (Binary Bits64 operation) x y ≡ computed (Binary width operation) x y
IsSameWide facts (Branch width relation dst source distance) = (x y : ℕ)
    → ContainsWord (fact intervals facts dst) x → ContainsWord (source_fact intervals facts source) y
    → is_taken Bits64 relation x y ≡ is_taken width relation x y
IsSameWide facts _ = ⊥

-- the same instruction, of 64 bits
abbrev pub wide_of : Instruction → Instruction
wide_of (Arithmetic width operation dst source) = Arithmetic Bits64 operation dst source
wide_of (Branch width relation dst source distance) = Branch Bits64 relation dst source distance
wide_of other = other

-- an instruction, or the same of 64 bits, where that does the same
abbrev pub IsWidened : Facts Fact → Instruction → Instruction → Type 0
IsWidened facts instruction other = (other ≡ instruction) ⊎ ((other ≡ wide_of instruction) × IsSameWide facts instruction)
