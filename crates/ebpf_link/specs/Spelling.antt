-- Numbers in place of registers.
use Rattle.std.specs.Prelude.{ℕ, ℤ, ◌≡◌}
use Rattle.instruction_set.specs.Instruction.{immediate_word}
use Rattle.instruction_set.specs.declared.operation.Width.{Width}
use Rattle.interval_domain.specs.Fact.{ContainsWord}
use Rattle.interval_domain.specs.Intervals.{intervals}
use Rattle.interval_domain.specs.declared.fact.Fact.{Fact}
use Rattle.accepted_programs.specs.Facts.{fact}
use Rattle.accepted_programs.specs.declared.facts.Facts.{Facts}
use Rattle.instruction_set.specs.declared.instruction.Instruction.{Instruction}
use Rattle.instruction_set.specs.declared.instruction.Instruction.TheVariants.{Arithmetic, Branch, StoreImmediate, StoreRegister}
use Rattle.instruction_set.specs.declared.instruction.Source.{Source}
use Rattle.instruction_set.specs.declared.instruction.Source.TheVariants.{Immediate, Register}
use Rattle.instruction_set.specs.declared.operation.Size.{Size}
use Rattle.instruction_set.specs.declared.operation.Size.TheVariants.{DoubleWord}
use Rattle.instruction_set.specs.declared.operation.Width.TheVariants.{Bits32, Bits64}
use Rattle.program_meaning.specs.Word.{low_bits}

-- an immediate is, for instructions of a width, each word that is known
abbrev pub IsSpelled : Width → ℤ → Fact → Type 0
IsSpelled width number fact = (w : ℕ) → ContainsWord fact w → low_bits width (immediate_word number) ≡ low_bits width w

-- a source in place of another one: the same, or a number for each word that is known of the register
abbrev pub StandsFor : Facts Fact → Width → Source → Source → Type 0
StandsFor facts width (Register r) (Immediate number) = IsSpelled width number (fact intervals facts r)
StandsFor facts width source other = other ≡ source

-- the width of which a store takes the low bytes
abbrev pub stored_width : Size → Width
stored_width DoubleWord = Bits64
stored_width _ = Bits32

-- an instruction in place of another one: the same, but for a number in place of a register that is known to have it
abbrev pub IsSameByNumber : Facts Fact → Instruction → Instruction → Type 0
IsSameByNumber facts (Arithmetic width operation dst source) (Arithmetic width' operation' dst' source') =
    (width' ≡ width) × (operation' ≡ operation) × (dst' ≡ dst) × StandsFor facts width source source'
IsSameByNumber facts (Branch width relation dst source distance) (Branch width' relation' dst' source' distance') =
    (width' ≡ width) × (relation' ≡ relation) × (dst' ≡ dst) × StandsFor facts width source source' × (distance' ≡ distance)
IsSameByNumber facts (StoreRegister size dst src offset) (StoreImmediate size' dst' offset' value) =
    (size' ≡ size) × (dst' ≡ dst) × (offset' ≡ offset) × IsSpelled (stored_width size) value (fact intervals facts src)
IsSameByNumber facts instruction other = other ≡ instruction
