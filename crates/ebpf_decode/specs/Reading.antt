-- Reading bytes: the program that they spell, or their first fault.
use Rattle.std.specs.Prelude.{ℕ, zero, suc, pos, ◌+◌, ◌*◌, ◌/◌, ◌%◌, ◌^◌, ◌==◌, nat_le, Bool, true, false, not, ◌&&◌, ◌||◌, List, [], ◌∷◌, length, drop, slice_get, slice_index, Option, Some, None, is_none, option_map, Result, Ok, Err, ok_or}
use Rattle.std.specs.Ordering.{int_eq}
use Rattle.std.specs.Int.{w16, w32, cast_signed, cast_unsigned}
use Rattle.std.specs.Option.{option_or}
use Rattle.std.specs.Result.{result_map_both}
use Rattle.ebpf_decode.specs.declared.fault.DecodeFault.{DecodeFault}
use Rattle.ebpf_decode.specs.declared.fault.DecodeFault.TheVariants as errors
use Rattle.ebpf_decode.specs.declared.fault.Fault.{Fault}
use Rattle.ebpf_decode.specs.declared.fault.FaultKind.{FaultKind}
use Rattle.ebpf_decode.specs.declared.fault.FaultKind.TheVariants as kinds
use Rattle.instruction_set.specs.declared.fields.Fields.{Fields}
use Rattle.instruction_set.specs.declared.instruction.Instruction.{Instruction}
use Rattle.instruction_set.specs.declared.instruction.Instruction.TheVariants as instructions
use Rattle.instruction_set.specs.declared.instruction.Source.{Source}
use Rattle.instruction_set.specs.declared.instruction.Source.TheVariants as sources
use Rattle.ebpf_decode.specs.declared.opcode.Opcode.{Opcode}
use Rattle.ebpf_decode.specs.declared.opcode.Opcode.TheVariants.{LoadImmediate, Load, LoadSigned, StoreImmediate, StoreRegister, Arithmetic, Negate, SwapBytes, Jump, JumpLong, Branch, Call, Exit, LeftOut}
use Rattle.ebpf_decode.specs.declared.opcode.Operand.{Operand}
use Rattle.ebpf_decode.specs.declared.opcode.Operand.TheVariants as operands
use Rattle.ebpf_decode.specs.declared.opcode.Uses.{Uses}
use Rattle.instruction_set.specs.declared.operation.Width.{Width}
use Rattle.instruction_set.specs.declared.operation.Operation.{Operation}
use Rattle.instruction_set.specs.Codes.{extension_with, variant_with, swap_size_with}
use Rattle.ebpf_decode.specs.Opcodes.{opcode_named, uses}
use Rattle.instruction_set.specs.Program.{is_wide}
use Rattle.common_definitions.specs.Bytes.{field}
use Rattle.common_definitions.specs.Readings.{unless_fault, with_front}
use Rattle.common_definitions.specs.Checks.{demand, first_failed}
use Rattle.program_interface.specs.declared.TheConstants.{MOST_SLOTS}
use Rattle.program_interface.specs.declared.registers.TheConstants.{REGISTERS}

-- the fields of the slot at the front of bytes (RFC 9669, 3.1)
abbrev pub fields_at : List ℕ → Fields
fields_at bytes = record {
  opcode = slice_index bytes 0;
  dst = slice_index bytes 1 % 16;
  src = slice_index bytes 1 / 16;
  offset = cast_signed w16 (field bytes 2 2);
  immediate = cast_signed w32 (field bytes 4 4);
}

-- the fields of the first slots of bytes
abbrev pub slots_at : ℕ → List ℕ → List Fields
slots_at zero bytes = []
slots_at (suc count) bytes = fields_at bytes ∷ slots_at count (drop 8 bytes)

-- the fields of a slot, where the bytes have it
abbrev pub fields_in : ℕ → List ℕ → Option Fields
fields_in slot bytes = slice_get (slots_at (length bytes / 8) bytes) slot

-- ---- the first fault of an instruction

-- is it an instruction that this profile leaves out, though RFC 9669 has its opcode?
abbrev pub is_left_out : Opcode → Fields → Bool
is_left_out (LeftOut which) f = true
is_left_out LoadImmediate f = not (f.src == 0)
is_left_out Call f = not (f.src == 0)
is_left_out _ f = false

-- is it the wide instruction? (RFC 9669, 5.4)
abbrev pub is_load_immediate : Opcode → Bool
is_load_immediate LoadImmediate = true
is_load_immediate _ = false

-- has a field that names a register a number that none has?
abbrev pub has_no_register : Uses → Fields → Bool
has_no_register used f = (used.dst && nat_le REGISTERS f.dst) || (used.src && nat_le REGISTERS f.src)

-- is a field that isn't used other than 0?
abbrev pub has_unused : Uses → Fields → Bool
has_unused used f =
    (not used.dst && not (f.dst == 0)) || (not used.src && not (f.src == 0))
    || (not used.offset && not (int_eq f.offset (pos 0))) || (not used.immediate && not (int_eq f.immediate (pos 0)))

-- is anything but the immediate of a wide instruction's second slot other than 0?
abbrev pub has_more : Option Fields → Bool
has_more None = false
has_more (Some f) = not (f.opcode == 0) || not (f.dst == 0) || not (f.src == 0) || not (int_eq f.offset (pos 0))

-- the checks of an instruction whose opcode is known, in order, but for that of its fields' values
abbrev pub checks : Opcode → Fields → Option Fields → List (Option FaultKind)
checks opcode f next =
    demand (not (is_left_out opcode f)) kinds.NotInProfile
    ∷ demand (not (is_load_immediate opcode && is_none next)) kinds.CutWide
    ∷ demand (not (has_no_register (uses opcode) f)) kinds.Register
    ∷ demand (not (has_unused (uses opcode) f || (is_load_immediate opcode && has_more next))) kinds.UnusedField
    ∷ []

-- the first fault of an instruction whose opcode is known, but for values that its fields can't have
abbrev pub first_fault : Opcode → Fields → Option Fields → Option FaultKind
first_fault opcode f next = first_failed (checks opcode f next)

-- ---- an instruction without these faults

-- the second operand: the immediate, or the register that src names
abbrev pub source_of : Operand → Fields → Source
source_of operands.Immediate f = sources.Immediate f.immediate
source_of operands.Register f = sources.Register f.src

-- the 32 bits of the immediate of a slot, as a number; 0, where there is no slot
abbrev pub immediate_of : Option Fields → ℕ
immediate_of None = 0
immediate_of (Some f) = cast_unsigned w32 f.immediate

-- a sign-extending move from a register, if the offset tells one
abbrev pub signed_move : Width → Operation → Operand → Fields → Option Instruction
signed_move width operation operands.Immediate f = None
signed_move width operation operands.Register f =
    option_map (λ extension. instructions.MoveSigned extension f.dst f.src) (extension_with width operation f.offset)

-- loads and stores of memory (RFC 9669, 5.1 and 5.2)
abbrev pub load_or_store : Opcode → Fields → Option Instruction
load_or_store (Load size) f = Some (instructions.Load size f.dst f.src f.offset)
load_or_store (LoadSigned size) f = Some (instructions.LoadSigned size f.dst f.src f.offset)
load_or_store (StoreImmediate size) f = Some (instructions.StoreImmediate size f.dst f.offset f.immediate)
load_or_store (StoreRegister size) f = Some (instructions.StoreRegister size f.dst f.src f.offset)
load_or_store _ f = None

-- jumps, calls and EXIT (RFC 9669, 4.3)
abbrev pub jump : Opcode → Fields → Option Instruction
jump Jump f = Some (instructions.Jump f.offset)
jump JumpLong f = Some (instructions.JumpLong f.immediate)
jump (Branch width relation operand) f = Some (instructions.Branch width relation f.dst (source_of operand f) f.offset)
jump Call f = Some (instructions.Call f.immediate)
jump Exit f = Some instructions.Exit
jump _ f = None

-- the instruction; none where a field that it uses has a value that no instruction has
abbrev pub instruction_with : Opcode → Fields → Option Fields → Option Instruction
instruction_with LoadImmediate f next = Some (instructions.LoadImmediate f.dst (cast_unsigned w32 f.immediate + 2 ^ 32 * immediate_of next))
instruction_with (Arithmetic width operation operand) f next =
    option_or (option_map (λ variant. instructions.Arithmetic width variant f.dst (source_of operand f)) (variant_with operation f.offset))
    (signed_move width operation operand f)
instruction_with (Negate width) f next = Some (instructions.Negate width f.dst)
instruction_with (SwapBytes swap) f next = option_map (λ size. instructions.SwapBytes swap size f.dst) (swap_size_with f.immediate)
instruction_with opcode f next = option_or (load_or_store opcode f) (jump opcode f)

-- ---- a slot, and all of them

-- the instruction of an opcode, or its first fault; an opcode that names nothing is one, and where no instruction is
-- found, a field has a value that it cannot have
abbrev pub read_named : Option Opcode → Fields → Option Fields → Result Instruction FaultKind
read_named None f next = Err kinds.Opcode
read_named (Some opcode) f next = unless_fault (first_fault opcode f next) (ok_or (instruction_with opcode f next) kinds.Value)

-- the instruction of a slot, where the next slot is known, or its first fault
abbrev pub read : Fields → Option Fields → Result Instruction FaultKind
read f next = read_named (opcode_named f.opcode) f next

-- what begins at a slot: nothing at a wide instruction's second
abbrev pub begun : Bool → Fields → Option Fields → Result (Option Instruction) FaultKind
begun true f next = Ok None
begun false f next = result_map_both Some (λ kind. kind) (read f next)

-- does a slot begin a wide instruction?
abbrev pub begins_wide : Option Instruction → Bool
begins_wide None = false
begins_wide (Some i) = is_wide i

-- what begins at slot number s, and then the slots after it
abbrev pub then_read : Result (Option Instruction) FaultKind → ℕ → (Bool → Result (List (Option Instruction)) Fault) → Result (List (Option Instruction)) Fault
then_read (Err kind) s after = Err (record { slot = s; kind = kind })
then_read (Ok found) s after = with_front (found ∷ []) (after (begins_wide found))

-- what begins at the slots from number s on, of which the first may be a wide instruction's second
abbrev pub read_slots : Bool → ℕ → List Fields → Result (List (Option Instruction)) Fault
read_slots second s [] = Ok []
read_slots second s (f ∷ rest) = then_read (begun second f (slice_get rest 0)) s (λ wide. read_slots wide (s + 1) rest)

-- the checks of a program's length, in order
abbrev pub length_checks : ℕ → List (Option FaultKind)
length_checks len =
    demand (len % 8 == 0) kinds.Length ∷ demand (not (len == 0)) kinds.Empty ∷ demand (nat_le (len / 8) MOST_SLOTS) kinds.TooLong ∷ []

-- what is wrong with a number of bytes
abbrev pub length_fault : ℕ → Option FaultKind
length_fault len = first_failed (length_checks len)

-- a fault at slot 0, where those of the length are told
abbrev pub at_first_slot : FaultKind → Fault
at_first_slot kind = record { slot = 0; kind = kind }

-- the program that bytes spell, or their first fault
abbrev pub decoded_program : List ℕ → Result (List (Option Instruction)) Fault
decoded_program bytes =
    unless_fault (option_map at_first_slot (length_fault (length bytes))) (read_slots false 0 (slots_at (length bytes / 8) bytes))

-- ---- what a function gives

-- the fault that an error tells; want of memory tells none
abbrev pub fault_in : DecodeFault → Option Fault
fault_in errors.Memory = None
fault_in (errors.Fault fault) = Some fault
