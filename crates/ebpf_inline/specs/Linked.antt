-- A unit's program: its functions stand where they are called, behind stores of the data.
use Rattle.std.specs.Prelude.{ℕ, ◌+◌, ◌-◌, ◌/◌, nat_le, nat_lt, false, List, [], ◌∷◌, ◌++◌, length, Option, Some, None, Result}
use Rattle.common_definitions.specs.Checks.{demand, first_failed, unless_failed}
use Rattle.common_definitions.specs.Readings.{◌>>=◌, unless_fault}
use Rattle.ebpf_inline.specs.declared.fault.InlineFault.{InlineFault}
use Rattle.ebpf_inline.specs.declared.fault.InlineFault.TheVariants.{Memory, Hindered}
use Rattle.ebpf_inline.specs.Bodies.{body_of}
use Rattle.ebpf_inline.specs.Data.{all_data, data_part}
use Rattle.ebpf_inline.specs.declared.unit_fault.UnitFault.{UnitFault}
use Rattle.ebpf_inline.specs.declared.unit_fault.UnitFault.TheVariants as faults
use Rattle.ebpf_inline.specs.declared.frame.Frame.{Frame}
use Rattle.ebpf_inline.specs.declared.frame.TheConstants.{MOST_FRAMES}
use Rattle.ebpf_inline.specs.declared.unit.TranslationUnit.{TranslationUnit}
use Rattle.ebpf_inline.specs.Sizes.{tree_slots}
use Rattle.ebpf_inline.specs.Units.{sections_of}
use Rattle.instruction_set.specs.declared.instruction.Instruction.{Instruction}
use Rattle.program_interface.specs.declared.TheConstants.{MOST_SLOTS}
use Rattle.program_interface.specs.declared.area.TheConstants.{STACK_BYTES}

-- the frame of the function that a block run starts with
abbrev pub start_frame : TranslationUnit → Frame
start_frame unit = record { function = unit.start; depth = MOST_FRAMES; below = 0 }

-- the slots of a program with this data, whose stack has so much room beside it
abbrev pub program_of : TranslationUnit → List ℕ → ℕ → List (Option Instruction)
program_of unit bytes room = data_part bytes ++ body_of unit room MOST_FRAMES (start_frame unit) false

-- the function to start with is there, and the data fits into the stack
abbrev pub unit_checks : TranslationUnit → List ℕ → List (Option UnitFault)
unit_checks unit bytes =
    demand (nat_lt unit.start (length unit.functions.items)) faults.NoStart
    ∷ demand (nat_le (length bytes) STACK_BYTES) faults.TooMuchData
    ∷ []

-- so many bytes of data and slots of functions are not too long
abbrev pub unless_long : ℕ → ℕ → Option UnitFault
unless_long bytes slots = demand (nat_le (bytes / 4 + slots) MOST_SLOTS) faults.TooLong

-- the same with this data
abbrev pub linked_with : TranslationUnit → List ℕ → Result (List (Option Instruction)) UnitFault
linked_with unit bytes =
    let room = STACK_BYTES - length bytes in
    tree_slots unit room MOST_FRAMES (start_frame unit) >>= λ slots.
    unless_failed (unless_long (length bytes) slots) (program_of unit bytes room)

-- the slots of a unit's program, or the first fault
abbrev pub linked : TranslationUnit → Result (List (Option Instruction)) UnitFault
linked unit =
    let bytes = all_data (sections_of unit) in
    unless_fault (first_failed (unit_checks unit bytes)) (linked_with unit bytes)

-- the fault that hinders, if it isn't want of memory
abbrev pub hindrance : InlineFault → Option UnitFault
hindrance (Memory error) = None
hindrance (Hindered fault) = Some fault
