-- How many slots a function takes in a program, with all that it calls, each as often as it is called.
use Rattle.std.specs.Prelude.{◌<◌, ◌≤◌, ℕ, zero, suc, ◌+◌, ◌-◌, ◌*◌, ◌%◌, ◌==◌, ◌&&◌, nat_le, nat_lt, List, [], ◌∷◌, length, Option, Some, None, is_some, Result, Ok, Err, if◌then◌else◌}
use Rattle.common_definitions.specs.Checks.{demand, first_failed}
use Rattle.common_definitions.specs.Readings.{◌>>=◌, unless_fault}
use Rattle.ebpf_inline.specs.declared.unit_fault.SlotFault.{SlotFault}
use Rattle.ebpf_inline.specs.declared.unit_fault.UnitFault.{UnitFault}
use Rattle.ebpf_inline.specs.declared.unit_fault.UnitFault.TheVariants as faults
use Rattle.ebpf_inline.specs.declared.frame.Frame.{Frame}
use Rattle.ebpf_inline.specs.declared.unit.FunctionSlot.{FunctionSlot}
use Rattle.ebpf_inline.specs.declared.unit.FunctionSlot.TheVariants.{Begins, Inside, Calls, Address}
use Rattle.ebpf_inline.specs.declared.unit.TranslationUnit.{TranslationUnit}
use Rattle.ebpf_inline.specs.Checks.{fault_of}
use Rattle.ebpf_inline.specs.Frames.{moved_frame_pointer}
use Rattle.ebpf_inline.specs.Units.{frame_bytes, kept_registers, slot_at, slots_of}
use Rattle.program_interface.specs.declared.TheConstants.{MOST_SLOTS}
use Rattle.program_interface.specs.declared.area.TheConstants.{STACK_BYTES}

-- ---- frames

-- the bytes below a caller's frame that so many registers take: whole words of 16 bytes, since the stack is aligned so (BPF's data layout)
abbrev pub kept_bytes : ℕ → ℕ
kept_bytes count = 8 * (count + count % 2)

-- the frame of a function that is called: it begins below the caller's and the registers that are kept for that
abbrev pub called_frame : TranslationUnit → Frame → ℕ → Frame
called_frame unit frame callee = record {
  function = callee;
  depth = frame.depth;
  below = frame.below + frame_bytes unit frame.function + kept_bytes (length (kept_registers unit callee));
}

-- the same frame, behind which there is one less
abbrev pub within : Frame → ℕ → Frame
within frame depth = record frame { depth = depth }

-- ---- slots

-- so many slots, unless that is more than a program can have
abbrev pub few_slots : ℕ → Result ℕ UnitFault
few_slots slots = if nat_le slots MOST_SLOTS then Ok slots else Err faults.TooLong

-- those that take the place of a second slot: none behind an address, which is two instructions
abbrev pub inside_slots : Option FunctionSlot → ℕ
inside_slots (Some (Address dst section byte)) = 0
inside_slots _ = 1

-- those that take the place of a call: stores and loads of what is kept, and those of the function
abbrev pub call_slots : (ℕ → Result ℕ UnitFault) → TranslationUnit → ℕ → Result ℕ UnitFault
call_slots tree unit callee = tree callee >>= λ called. Ok (2 * length (kept_registers unit callee) + called)

-- those that take the place of a slot: a move of R10 is two instructions
abbrev pub slots_for : (ℕ → Result ℕ UnitFault) → TranslationUnit → ℕ → ℕ → FunctionSlot → Result ℕ UnitFault
slots_for tree unit function slot (Begins i) = Ok (if is_some (moved_frame_pointer i) then 2 else 1)
slots_for tree unit function slot Inside = Ok (inside_slots (slot_at unit function (slot - 1)))
slots_for tree unit function slot (Address dst section byte) = Ok 2
slots_for tree unit function slot (Calls callee) = call_slots tree unit callee

-- the same of what a function has there, if anything
abbrev pub slots_for_found : (ℕ → Result ℕ UnitFault) → TranslationUnit → ℕ → ℕ → Option FunctionSlot → Result ℕ UnitFault
slots_for_found tree unit function slot None = Ok 0
slots_for_found tree unit function slot (Some found) = slots_for tree unit function slot found

-- the fault of a slot
abbrev pub told : ℕ → ℕ → Option SlotFault → Option UnitFault
told function slot None = None
told function slot (Some fault) = Some (faults.Slot function slot fault)

-- those that take the place of a slot of a function, unless that can't be a part of a program
abbrev pub slots_at : (ℕ → Result ℕ UnitFault) → TranslationUnit → ℕ → ℕ → Result ℕ UnitFault
slots_at tree unit function slot =
    let found = slot_at unit function slot in
    unless_fault (told function slot (fault_of unit (slots_of unit function) (frame_bytes unit function) slot found))
    (slots_for_found tree unit function slot found)

-- those of so many first slots
abbrev pub slots_before : (ℕ → Result ℕ UnitFault) → ℕ → Result ℕ UnitFault
slots_before at zero = Ok 0
slots_before at (suc slot) = slots_before at slot >>= λ before. at slot >>= λ here. few_slots (before + here)

-- those of a function
abbrev pub body_slots : (ℕ → Result ℕ UnitFault) → TranslationUnit → ℕ → Result ℕ UnitFault
body_slots tree unit function = slots_before (slots_at tree unit function) (length (slots_of unit function))

-- may a function have this frame, where the stack has so much room beside the data?
abbrev pub frame_checks : TranslationUnit → ℕ → Frame → List (Option UnitFault)
frame_checks unit room frame =
    let bytes = frame_bytes unit frame.function in
    demand (nat_lt 0 (length (slots_of unit frame.function))) (faults.Empty frame.function)
    ∷ demand (nat_le (frame.below + bytes) room && bytes % 8 == 0) (faults.NoRoom frame.function)
    ∷ demand (nat_le (length (slots_of unit frame.function)) MOST_SLOTS) faults.TooLong
    ∷ []

-- Those of a function with a frame, behind which there are so many at most: the first fault is that of the lowest slot, and of a function
-- that is called as if it stood there.
unfoldable pub tree_slots : TranslationUnit → ℕ → ℕ → Frame → Result ℕ UnitFault
tree_slots unit room zero frame = Err (faults.TooDeep frame.function)
tree_slots unit room (suc depth) frame =
    unless_fault (first_failed (frame_checks unit room frame))
    (body_slots (λ callee. tree_slots unit room depth (called_frame unit (within frame depth) callee)) unit frame.function)

-- those of a function that one with this frame calls
abbrev pub callee_slots : TranslationUnit → ℕ → Frame → ℕ → Result ℕ UnitFault
callee_slots unit room frame callee = tree_slots unit room frame.depth (called_frame unit frame callee)

-- a function that is there, with few slots, and a frame that is within the stack
pub record HasFrame (unit : TranslationUnit) (frame : Frame) : Type 0 where
  pub there : frame.function < length unit.functions.items
  pub few : length (slots_of unit frame.function) ≤ MOST_SLOTS
  pub fits : frame.below + frame_bytes unit frame.function ≤ STACK_BYTES
