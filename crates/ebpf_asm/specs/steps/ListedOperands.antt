-- The operands of a listed line, one at a time.
use Rattle.std.specs.Prelude.{ℕ, List, [], ◌++◌, Option, Some, None}
use Rattle.ebpf_asm.specs.Listing.{memory_text, signed_text, source_text, wide_text}
use Rattle.ebpf_asm.specs.declared.listing.Operand.{Operand}
use Rattle.ebpf_asm.specs.declared.listing.Operand.TheVariants as operands

-- an operand as listings have it
abbrev pub operand_text : Operand → List ℕ
operand_text (operands.Source source) = source_text source
operand_text (operands.Wide value) = wide_text value
operand_text (operands.Memory base offset) = memory_text base offset
operand_text (operands.Distance distance) = signed_text distance

-- a text behind what stands before it, or neither
abbrev pub text_behind : List ℕ → Option (List ℕ) → List ℕ
text_behind before None = []
text_behind before (Some text) = before ++ text
