-- What hinders a slot of a function from being a part of a program.
use Rattle.std.specs.Prelude.{ℕ, zero, suc, ℤ, int_lt, pos, negsuc, neg_ℤ, ◌+◌, ◌==◌, ◌&&◌, ◌||◌, not, nat_le, nat_lt, Bool, true, false, List, [], ◌∷◌, length, slice_get, Option, Some, None, is_none}
use Rattle.common_definitions.specs.Checks.{demand, first_failed}
use Rattle.ebpf_inline.specs.declared.unit_fault.SlotFault.{SlotFault}
use Rattle.ebpf_inline.specs.declared.unit_fault.SlotFault.TheVariants as faults
use Rattle.ebpf_inline.specs.declared.unit.FunctionSlot.{FunctionSlot}
use Rattle.ebpf_inline.specs.declared.unit.FunctionSlot.TheVariants.{Begins, Inside, Calls, Address}
use Rattle.ebpf_inline.specs.declared.unit.TranslationUnit.{TranslationUnit}
use Rattle.ebpf_inline.specs.Frames.{moved_frame_pointer, reads_frame_pointer}
use Rattle.ebpf_inline.specs.Units.{sections_of}
use Rattle.instruction_set.specs.declared.access.Access.{Access}
use Rattle.instruction_set.specs.declared.instruction.Instruction.{Instruction}
use Rattle.instruction_set.specs.declared.instruction.Instruction.TheVariants.{Jump, JumpLong, Exit}
use Rattle.instruction_set.specs.Instruction.{access_of, distance_of, target, writes}
use Rattle.instruction_set.specs.Program.{is_wide, slots_taken}

-- ---- where something begins

-- is it a second slot?
abbrev pub is_inside : Option FunctionSlot → Bool
is_inside (Some Inside) = true
is_inside _ = false

-- is it an instruction, a call or an address?
abbrev pub is_beginning : Option FunctionSlot → Bool
is_beginning None = false
is_beginning (Some Inside) = false
is_beginning (Some _) = true

-- does one begin at this slot?
abbrev pub begins : List FunctionSlot → ℤ → Bool
begins slots (pos slot) = is_beginning (slice_get slots slot)
begins slots (negsuc n) = false

-- does it take two slots?
abbrev pub takes_two : Option FunctionSlot → Bool
takes_two (Some (Begins i)) = is_wide i
takes_two (Some (Address dst section byte)) = true
takes_two _ = false

-- ---- where instructions lead

-- may an instruction lead to what stands behind it, but by a distance?
abbrev pub goes_on : Instruction → Bool
goes_on (Jump distance) = false
goes_on (JumpLong distance) = false
goes_on Exit = false
goes_on _ = true

-- does a jump, if this is one, lead to a slot at which nothing begins?
abbrev pub jumps_astray : List FunctionSlot → ℕ → Option ℤ → Bool
jumps_astray slots slot None = false
jumps_astray slots slot (Some distance) = not (begins slots (target slot distance))

-- does an instruction at a slot lead to a slot at which nothing begins?
abbrev pub leaves : List FunctionSlot → ℕ → Instruction → Bool
leaves slots slot i =
    (goes_on i && not (begins slots (pos (slot + slots_taken i)))) || jumps_astray slots slot (distance_of i)

-- ---- what instructions do with R10

-- does an access, if there is one, name bytes below a frame of so many bytes?
abbrev pub is_below : ℕ → Option Access → Bool
is_below bytes None = false
is_below bytes (Some access) = access.base == 10 && int_lt access.offset (neg_ℤ (pos bytes))

-- does an instruction write R10, or take it otherwise than as an address, or to move it?
abbrev pub takes_frame_pointer : Instruction → Bool
takes_frame_pointer i = writes i 10 || (reads_frame_pointer i && is_none (moved_frame_pointer i))

-- ---- what hinders

-- are these the same?
abbrev pub is_same : Bool → Bool → Bool
is_same true b = b
is_same false b = not b

-- an instruction at a slot
abbrev pub instruction_checks : List FunctionSlot → ℕ → ℕ → Instruction → List (Option SlotFault)
instruction_checks slots bytes slot i =
    demand (is_same (is_wide i) (is_inside (slice_get slots (slot + 1)))) faults.Half
    ∷ demand (not (takes_frame_pointer i)) faults.FramePointer
    ∷ demand (not (is_below bytes (access_of i))) faults.BelowFrame
    ∷ demand (not (leaves slots slot i)) faults.Leaves
    ∷ []

-- a second slot
abbrev pub inside_checks : List FunctionSlot → ℕ → List (Option SlotFault)
inside_checks slots zero = Some faults.Half ∷ []
inside_checks slots (suc slot) = demand (takes_two (slice_get slots slot)) faults.Half ∷ []

-- a call, where there are so many functions
abbrev pub call_checks : ℕ → List FunctionSlot → ℕ → ℕ → List (Option SlotFault)
call_checks functions slots slot callee =
    demand (nat_lt callee functions) faults.NoFunction
    ∷ demand (begins slots (pos (slot + 1))) faults.Leaves
    ∷ []

-- is there this byte of data, or is it the one behind the last?
abbrev pub has_data : Option (List ℕ) → ℕ → Bool
has_data None byte = false
has_data (Some section) byte = nat_le byte (length section)

-- an address of data
abbrev pub address_checks : TranslationUnit → List FunctionSlot → ℕ → ℕ → ℕ → ℕ → List (Option SlotFault)
address_checks unit slots slot dst section byte =
    demand (is_inside (slice_get slots (slot + 1))) faults.Half
    ∷ demand (not (dst == 10)) faults.FramePointer
    ∷ demand (has_data (slice_get (sections_of unit) section) byte) faults.NoData
    ∷ demand (begins slots (pos (slot + 2))) faults.Leaves
    ∷ []

-- what a function has at a slot
abbrev pub slot_checks : TranslationUnit → List FunctionSlot → ℕ → ℕ → FunctionSlot → List (Option SlotFault)
slot_checks unit slots bytes slot (Begins i) = instruction_checks slots bytes slot i
slot_checks unit slots bytes slot Inside = inside_checks slots slot
slot_checks unit slots bytes slot (Calls callee) = call_checks (length unit.functions.items) slots slot callee
slot_checks unit slots bytes slot (Address dst section byte) = address_checks unit slots slot dst section byte

-- what hinders what stands at a slot, if anything does
abbrev pub fault_of : TranslationUnit → List FunctionSlot → ℕ → ℕ → Option FunctionSlot → Option SlotFault
fault_of unit slots bytes slot None = None
fault_of unit slots bytes slot (Some found) = first_failed (slot_checks unit slots bytes slot found)
