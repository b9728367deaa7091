-- Constant data of a unit: it stands at the stack's lowest bytes, each section padded to whole words of 8 bytes.
use Rattle.std.specs.Prelude.{ℕ, zero, suc, pos, ◌-ℤ◌, ◌+◌, ◌*◌, ◌/◌, List, [], ◌∷◌, ◌++◌, length, drop, nat_le, Option, Some, None, Result, Ok, Err, if◌then◌else◌}
use Rattle.std.specs.Int.{w32, cast_signed}
use Rattle.byteorder.specs.Endian.{little_number}
use Rattle.common_definitions.specs.Bytes.{padded}
use Rattle.ebpf_inline.specs.declared.unit_fault.UnitFault.{UnitFault}
use Rattle.ebpf_inline.specs.declared.unit_fault.UnitFault.TheVariants.{TooMuchData}
use Rattle.instruction_set.specs.declared.instruction.Instruction.{Instruction}
use Rattle.instruction_set.specs.declared.instruction.Instruction.TheVariants.{StoreImmediate}
use Rattle.instruction_set.specs.declared.operation.Size.TheVariants.{Word}
use Rattle.program_interface.specs.declared.area.TheConstants.{STACK_BYTES}

-- the bytes that a section of so many takes
abbrev pub padded_length : ℕ → ℕ
padded_length count = 8 * ((count + 7) / 8)

-- a section with zeros behind it
abbrev pub padded_section : List ℕ → List ℕ
padded_section section = padded (padded_length (length section)) section

-- all sections, one behind the other
abbrev pub all_data : List (List ℕ) → List ℕ
all_data [] = []
all_data (section ∷ rest) = padded_section section ++ all_data rest

-- at which byte of them a section begins
abbrev pub data_begin : List (List ℕ) → ℕ → ℕ
data_begin [] number = 0
data_begin (section ∷ rest) zero = 0
data_begin (section ∷ rest) (suc number) = padded_length (length section) + data_begin rest number

-- the bytes of all sections, where the stack has so many
abbrev pub fitting_data : List (List ℕ) → Result (List ℕ) UnitFault
fitting_data sections = if nat_le (length (all_data sections)) STACK_BYTES then Ok (all_data sections) else Err TooMuchData

-- how many bytes a section has, if it is there
abbrev pub section_length : Option (List ℕ) → ℕ
section_length None = 0
section_length (Some section) = length section

-- a store of 4 bytes of the data, by their number among all such words
abbrev pub store_word : List ℕ → ℕ → Option Instruction
store_word bytes word =
    Some (StoreImmediate Word 10 (pos (4 * word) -ℤ pos STACK_BYTES) (cast_signed w32 (little_number 4 (drop (4 * word) bytes))))

-- so many first ones of a list that is given place by place
abbrev pub first_ones : {X : Type 0} → (ℕ → X) → ℕ → List X
first_ones at zero = []
first_ones at (suc count) = first_ones at count ++ at count ∷ []

-- stores of the data
abbrev pub data_part : List ℕ → List (Option Instruction)
data_part bytes = first_ones (store_word bytes) (length bytes / 4)
