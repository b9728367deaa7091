-- What a unit of functions and data has.
use Rattle.std.specs.Prelude.{ℕ, ◌==◌, Bool, false, List, [], ◌∷◌, map, filter, slice_get, Option, Some, None}
use Rattle.std.specs.List.{list_any}
use Rattle.ebpf_inline.specs.declared.unit.FunctionBody.{FunctionBody}
use Rattle.ebpf_inline.specs.declared.unit.FunctionSlot.{FunctionSlot}
use Rattle.ebpf_inline.specs.declared.unit.FunctionSlot.TheVariants.{Begins, Inside, Calls, Address}
use Rattle.ebpf_inline.specs.declared.unit.TranslationUnit.{TranslationUnit}
use Rattle.instruction_set.specs.declared.instruction.Instruction.{Instruction}
use Rattle.instruction_set.specs.declared.instruction.Instruction.TheVariants as instructions
use Rattle.instruction_set.specs.Instruction.{writes}

-- a function's slots, where it is there
abbrev pub slots_in : Option FunctionBody → List FunctionSlot
slots_in None = []
slots_in (Some body) = body.slots.items

-- the bytes of its frame
abbrev pub bytes_in : Option FunctionBody → ℕ
bytes_in None = 0
bytes_in (Some body) = body.frame_bytes

-- the slots of the function with this number; none where there is no such function
abbrev pub slots_of : TranslationUnit → ℕ → List FunctionSlot
slots_of unit function = slots_in (slice_get unit.functions.items function)

-- what a function has at a slot
abbrev pub slot_at : TranslationUnit → ℕ → ℕ → Option FunctionSlot
slot_at unit function slot = slice_get (slots_of unit function) slot

-- the bytes of the frame of the function with this number
abbrev pub frame_bytes : TranslationUnit → ℕ → ℕ
frame_bytes unit function = bytes_in (slice_get unit.functions.items function)

-- the bytes of a unit's sections
abbrev pub sections_of : TranslationUnit → List (List ℕ)
sections_of unit = map (λ section. section.items) unit.sections.items

-- ---- what a function writes

-- does a slot write this register?
abbrev pub slot_writes : ℕ → FunctionSlot → Bool
slot_writes r (Begins i) = writes i r
slot_writes r Inside = false
slot_writes r (Calls function) = false
slot_writes r (Address dst section byte) = dst == r

-- do slots of a function, but what they call?
abbrev pub slots_write : List FunctionSlot → ℕ → Bool
slots_write slots r = list_any (slot_writes r) slots

-- of R6 to R9, which a function keeps for its caller (BPF ABI 1.0, Registers and calling convention), those that these slots write
abbrev pub kept_by : List FunctionSlot → List ℕ
kept_by slots = filter (slots_write slots) (6 ∷ 7 ∷ 8 ∷ 9 ∷ [])

-- the registers that are kept for who calls the function with this number; what that calls keeps them itself
abbrev pub kept_registers : TranslationUnit → ℕ → List ℕ
kept_registers unit function = kept_by (slots_of unit function)

-- ---- where instructions begin

-- the instruction that begins at a slot, if only by how many slots it takes
abbrev pub begun : FunctionSlot → Option Instruction
begun (Begins i) = Some i
begun Inside = None
begun (Calls function) = Some instructions.Exit
begun (Address dst section byte) = Some (instructions.LoadImmediate dst 0)

-- where instructions of a function begin
abbrev pub shape : TranslationUnit → ℕ → List (Option Instruction)
shape unit function = map begun (slots_of unit function)
