-- Instructions in place of others that do the same.
use Rattle.std.specs.Prelude.{ℕ, ℤ, Some, ◌≡◌, ◌+◌, ◌%◌, ◌^◌, ◌⊎◌}
use Rattle.std.specs.Int.{cast_unsigned, w64}
use Rattle.accepted_programs.specs.Facts.{fact}
use Rattle.accepted_programs.specs.declared.facts.Facts.{Facts}
use Rattle.ebpf_link.specs.Spelling.{IsSpelled}
use Rattle.instruction_set.specs.Instruction.{destination_register}
use Rattle.instruction_set.specs.declared.instruction.Instruction.{Instruction}
use Rattle.instruction_set.specs.declared.instruction.Instruction.TheVariants.{Arithmetic}
use Rattle.instruction_set.specs.declared.instruction.Source.TheVariants.{Immediate}
use Rattle.instruction_set.specs.declared.operation.Operation.TheVariants.{Move}
use Rattle.instruction_set.specs.declared.operation.Width.TheVariants.{Bits64}
use Rattle.interval_domain.specs.Fact.{ContainsWord}
use Rattle.interval_domain.specs.Intervals.{intervals}
use Rattle.interval_domain.specs.declared.fact.Fact.{Fact}

-- an instruction, or a move of the one number that is known of its destination behind it
abbrev pub IsFolded : Facts Fact → Instruction → Instruction → Type 0
IsFolded facts instruction other = (other ≡ instruction)
    ⊎ ((dst : ℕ) × (number : ℤ) × (destination_register instruction ≡ Some dst)
    × (other ≡ Arithmetic Bits64 Move dst (Immediate number)) × IsSpelled Bits64 number (fact intervals facts dst))

-- an offset from one register is the same address as another offset from another register
abbrev pub IsSameAddress : Facts Fact → ℕ → ℤ → ℕ → ℤ → Type 0
IsSameAddress facts base offset other from = (x y : ℕ)
    → ContainsWord (fact intervals facts base) x → ContainsWord (fact intervals facts other) y
    → (x + cast_unsigned w64 offset) % 2 ^ 64 ≡ (y + cast_unsigned w64 from) % 2 ^ 64
