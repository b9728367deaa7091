-- The listing of a program: the text of each of its instructions on a line (profile).
use Rattle.std.specs.Prelude.{ℕ, ℤ, pos, int_lt, ◌-◌, ◌+◌, if◌then◌else◌, false, List, [], ◌∷◌, ◌++◌, length, replicate, Option, Some, None, codes}
use Rattle.std.specs.List.{flat_map}
use Rattle.std.specs.Fmt.{decimal, signed_decimal, digits}
use Rattle.instruction_set.specs.declared.instruction.Instruction.{Instruction}
use Rattle.instruction_set.specs.declared.instruction.Instruction.TheVariants.{LoadImmediate, Load, LoadSigned, StoreImmediate, StoreRegister, Arithmetic, Negate, MoveSigned, SwapBytes, Jump, JumpLong, Branch, Call, Exit}
use Rattle.instruction_set.specs.declared.instruction.Source.{Source}
use Rattle.instruction_set.specs.declared.instruction.Source.TheVariants as sources
use Rattle.instruction_set.specs.Spelling.{instructions_of}
use Rattle.ebpf_asm.specs.declared.mnemonic.Mnemonic.{Mnemonic}
use Rattle.ebpf_asm.specs.declared.mnemonic.Mnemonic.TheVariants as mnemonics
use Rattle.ebpf_asm.specs.Mnemonic.{mnemonic_text}

-- a register: `r` and its number
abbrev pub register_text : ℕ → List ℕ
register_text number = 114 ∷ decimal number

-- a distance or an offset: its sign stands always
abbrev pub signed_text : ℤ → List ℕ
signed_text z = if int_lt z (pos 0) then signed_decimal z else 43 ∷ signed_decimal z

-- a memory operand: a register and an offset in brackets
abbrev pub memory_text : ℕ → ℤ → List ℕ
memory_text base offset = 91 ∷ (register_text base ++ signed_text offset) ++ 93 ∷ []

-- `0x` and 16 digits
abbrev pub wide_text : ℕ → List ℕ
wide_text value = codes "0x" ++ (replicate (16 - length (digits 16 false value)) 48 ++ digits 16 false value)

-- a second operand: a number, or a register
abbrev pub source_text : Source → List ℕ
source_text (sources.Immediate value) = signed_decimal value
source_text (sources.Register register) = register_text register

-- the mnemonic of an instruction
abbrev pub mnemonic_of : Instruction → Mnemonic
mnemonic_of (LoadImmediate dst value) = mnemonics.LoadImmediate
mnemonic_of (Load size dst src offset) = mnemonics.Load size
mnemonic_of (LoadSigned size dst src offset) = mnemonics.LoadSigned size
mnemonic_of (StoreImmediate size dst offset value) = mnemonics.StoreImmediate size
mnemonic_of (StoreRegister size dst src offset) = mnemonics.StoreRegister size
mnemonic_of (Arithmetic width operation dst source) = mnemonics.Arithmetic width operation
mnemonic_of (Negate width dst) = mnemonics.Negate width
mnemonic_of (MoveSigned extension dst src) = mnemonics.MoveSigned extension
mnemonic_of (SwapBytes swap size dst) = mnemonics.SwapBytes swap size
mnemonic_of (Jump distance) = mnemonics.Jump
mnemonic_of (JumpLong distance) = mnemonics.JumpLong
mnemonic_of (Branch width relation dst source distance) = mnemonics.Branch width relation
mnemonic_of (Call helper) = mnemonics.Call
mnemonic_of Exit = mnemonics.Exit

-- the operands of an instruction, in order
abbrev pub operand_texts : Instruction → List (List ℕ)
operand_texts (LoadImmediate dst value) = register_text dst ∷ wide_text value ∷ []
operand_texts (Load size dst src offset) = register_text dst ∷ memory_text src offset ∷ []
operand_texts (LoadSigned size dst src offset) = register_text dst ∷ memory_text src offset ∷ []
operand_texts (StoreImmediate size dst offset value) = memory_text dst offset ∷ signed_decimal value ∷ []
operand_texts (StoreRegister size dst src offset) = memory_text dst offset ∷ register_text src ∷ []
operand_texts (Arithmetic width operation dst source) = register_text dst ∷ source_text source ∷ []
operand_texts (Negate width dst) = register_text dst ∷ []
operand_texts (MoveSigned extension dst src) = register_text dst ∷ register_text src ∷ []
operand_texts (SwapBytes swap size dst) = register_text dst ∷ []
operand_texts (Jump distance) = signed_text distance ∷ []
operand_texts (JumpLong distance) = signed_text distance ∷ []
operand_texts (Branch width relation dst source distance) = register_text dst ∷ source_text source ∷ signed_text distance ∷ []
operand_texts (Call helper) = signed_decimal helper ∷ []
operand_texts Exit = []

-- each text behind a comma and a space
abbrev pub further_texts : List (List ℕ) → List ℕ
further_texts texts = flat_map (λ text. codes ", " ++ text) texts

-- the operands: a space before the first, a comma and a space before each other
abbrev pub operands_text : List (List ℕ) → List ℕ
operands_text [] = []
operands_text (first ∷ others) = codes " " ++ (first ++ further_texts others)

-- an instruction as a text: its mnemonic and its operands
abbrev pub text_of_instruction : Instruction → List ℕ
text_of_instruction instruction = mnemonic_text (mnemonic_of instruction) ++ operands_text (operand_texts instruction)

-- the same as a line
abbrev pub line_text : Instruction → List ℕ
line_text instruction = text_of_instruction instruction ++ codes "\n"

-- the listing of a program
abbrev pub listing : List (Option Instruction) → List ℕ
listing slots = flat_map line_text (instructions_of slots)

-- a slot to the right of four columns, and two spaces
abbrev pub slot_text : ℕ → List ℕ
slot_text slot = replicate (4 - length (decimal slot)) 32 ++ decimal slot ++ codes "  "

-- the line of an instruction, behind its slot
abbrev pub line_with_slot : ℕ → Instruction → List ℕ
line_with_slot slot instruction = slot_text slot ++ line_text instruction

-- the instructions of slots, each behind its slot, where the first has this number
abbrev pub lines_from : ℕ → List (Option Instruction) → List ℕ
lines_from slot [] = []
lines_from slot (Some instruction ∷ rest) = line_with_slot slot instruction ++ lines_from (slot + 1) rest
lines_from slot (None ∷ rest) = lines_from (slot + 1) rest

-- the listing of a program with the slot of each instruction before it
abbrev pub listing_with_slots : List (Option Instruction) → List ℕ
listing_with_slots slots = lines_from 0 slots
