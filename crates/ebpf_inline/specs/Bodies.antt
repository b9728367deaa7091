-- What takes the place of a function in a program: its slots, and where it calls another, that function's.
--
-- A call keeps those registers of R6 to R9 that the function writes which is called: it stores them below the caller's frame, and loads
-- them again behind the function's slots. Below them begins the frame of what is called.
use Rattle.std.specs.Prelude.{ℕ, zero, suc, ℤ, pos, ◌-ℤ◌, ◌+◌, ◌-◌, Bool, true, List, [], ◌∷◌, ◌++◌, length, slice_index, Option, Some, None, Result, Ok, Err, if◌then◌else◌}
use Rattle.ebpf_inline.specs.Data.{data_begin, first_ones}
use Rattle.ebpf_inline.specs.declared.unit_fault.UnitFault.{UnitFault}
use Rattle.ebpf_inline.specs.declared.frame.Frame.{Frame}
use Rattle.ebpf_inline.specs.declared.unit.FunctionSlot.{FunctionSlot}
use Rattle.ebpf_inline.specs.declared.unit.FunctionSlot.TheVariants.{Begins, Inside, Calls, Address}
use Rattle.ebpf_inline.specs.declared.unit.TranslationUnit.{TranslationUnit}
use Rattle.ebpf_inline.specs.Frames.{by_distance, distance, frame_address, in_frame, moved_frame_pointer}
use Rattle.ebpf_inline.specs.Sizes.{called_frame, callee_slots, slots_at, slots_before, within}
use Rattle.ebpf_inline.specs.Units.{frame_bytes, kept_registers, sections_of, slot_at, slots_of}
use Rattle.instruction_set.specs.declared.instruction.Instruction.{Instruction}
use Rattle.instruction_set.specs.declared.instruction.Instruction.TheVariants.{Load, StoreRegister}
use Rattle.instruction_set.specs.declared.operation.Size.TheVariants.{DoubleWord}
use Rattle.instruction_set.specs.Instruction.{distance_of, target}
use Rattle.program_interface.specs.declared.area.TheConstants.{STACK_BYTES}
use Rattle.program_meaning.specs.Cause.{is_exit}
use Rattle.program_meaning.specs.Step.{slot_number}

-- ---- places

-- a number of slots, where there is one
abbrev pub counted : Result ℕ UnitFault → ℕ
counted (Ok slots) = slots
counted (Err fault) = 0

-- how many slots take the place of so many first ones of a function
abbrev pub place : TranslationUnit → ℕ → Frame → ℕ → ℕ
place unit room frame slot = counted (slots_before (slots_at (callee_slots unit room frame) unit frame.function) slot)

-- where each slot of a function is, and where the function ends
unfoldable pub places_of : TranslationUnit → ℕ → Frame → List ℕ
places_of unit room frame = first_ones (place unit room frame) (length (slots_of unit frame.function) + 1)

-- ---- what takes the place of a slot

-- the slot to which a distance leads
abbrev pub led_to : ℕ → Option ℤ → Option ℕ
led_to slot None = None
led_to slot (Some distance) = Some (slot_number (target slot distance))

-- the slot to which an instruction at a slot leads by a jump: EXIT of a function that is called leads behind all of its slots
abbrev pub leads_to : Bool → ℕ → ℕ → Instruction → Option ℕ
leads_to is_called count slot i = if is_exit i then (if is_called then Some count else None) else led_to slot (distance_of i)

-- an instruction at its place, by where each slot's place is, and by the slot to which it leads
abbrev pub placed : List ℕ → ℕ → ℕ → Instruction → Option ℕ → Instruction
placed places below slot i None = in_frame below i
placed places below slot i (Some to) = by_distance (distance (slice_index places slot) (slice_index places to)) i

-- an instruction, by the register to which it moves R10
abbrev pub instruction_part : List ℕ → Frame → Bool → ℕ → ℕ → Instruction → Option ℕ → List (Option Instruction)
instruction_part places frame is_called count slot i (Some dst) = frame_address dst frame.below
instruction_part places frame is_called count slot i None = Some (placed places frame.below slot i (leads_to is_called count slot i)) ∷ []

-- a second slot, by what is before it
abbrev pub inside_part : Option FunctionSlot → List (Option Instruction)
inside_part (Some (Address dst section byte)) = []
inside_part _ = None ∷ []

-- the offset from R10 of the lowest of 8 bytes that end so many bytes below it
abbrev pub cell : ℕ → ℤ
cell below = pos 0 -ℤ pos (below + 8)

-- registers are stored one below the other, the first in the 8 bytes that end so many bytes below R10
abbrev pub stores : ℕ → List ℕ → List (Option Instruction)
stores below [] = []
stores below (r ∷ kept) = Some (StoreRegister DoubleWord 10 r (cell below)) ∷ stores (below + 8) kept

-- and are loaded from there
abbrev pub loads : ℕ → List ℕ → List (Option Instruction)
loads below [] = []
loads below (r ∷ kept) = Some (Load DoubleWord r 10 (cell below)) ∷ loads (below + 8) kept

-- a call, by the part of what is called
abbrev pub call_part : TranslationUnit → Frame → ℕ → List (Option Instruction) → List (Option Instruction)
call_part unit frame callee body =
    let below = frame.below + frame_bytes unit frame.function in
    let kept = kept_registers unit callee in
    stores below kept ++ body ++ loads below kept

-- an address of data: so many bytes below R10
abbrev pub address_part : TranslationUnit → ℕ → ℕ → ℕ → List (Option Instruction)
address_part unit dst section byte = frame_address dst (STACK_BYTES - (data_begin (sections_of unit) section + byte))

-- what takes the place of what a function has at a slot, by the parts of what it calls
abbrev pub part_of : (ℕ → List (Option Instruction)) → TranslationUnit → List ℕ → Frame → Bool → ℕ → Option FunctionSlot
    → List (Option Instruction)
part_of body unit places frame is_called slot None = []
part_of body unit places frame is_called slot (Some (Begins i)) =
    instruction_part places frame is_called (length (slots_of unit frame.function)) slot i (moved_frame_pointer i)
part_of body unit places frame is_called slot (Some Inside) = inside_part (slot_at unit frame.function (slot - 1))
part_of body unit places frame is_called slot (Some (Calls callee)) = call_part unit frame callee (body callee)
part_of body unit places frame is_called slot (Some (Address dst section byte)) = address_part unit dst section byte

-- ---- a function

-- what takes the place of so many first slots
abbrev pub parts_before : (ℕ → List (Option Instruction)) → ℕ → List (Option Instruction)
parts_before at zero = []
parts_before at (suc slot) = parts_before at slot ++ at slot

-- what takes the place of a slot of a function
abbrev pub slot_part : (ℕ → List (Option Instruction)) → TranslationUnit → ℕ → Frame → Bool → ℕ → List (Option Instruction)
slot_part body unit room frame is_called slot =
    part_of body unit (places_of unit room frame) frame is_called slot (slot_at unit frame.function slot)

-- what takes the place of a function with a frame, behind which there are so many at most
unfoldable pub body_of : TranslationUnit → ℕ → ℕ → Frame → Bool → List (Option Instruction)
body_of unit room zero frame is_called = []
body_of unit room (suc depth) frame is_called =
    let here = within frame depth in
    parts_before (slot_part (λ callee. body_of unit room depth (called_frame unit here callee) true) unit room here is_called)
    (length (slots_of unit frame.function))

-- what takes the place of a function that one with this frame calls
abbrev pub callee_part : TranslationUnit → ℕ → Frame → ℕ → List (Option Instruction)
callee_part unit room frame callee = body_of unit room frame.depth (called_frame unit frame callee) true
