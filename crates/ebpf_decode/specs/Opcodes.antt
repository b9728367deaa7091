-- What an opcode names, and which fields it uses.
use Rattle.std.specs.Prelude.{ℕ, ◌==◌, ◌/◌, ◌%◌, Bool, true, false, List, [], ◌∷◌, find, Option, Some, None, option_and_then, option_map, if◌then◌else◌}
use Rattle.std.specs.List.{list_any}
use Rattle.std.specs.Option.{option_or}
use Rattle.ebpf_decode.specs.declared.opcode.LeftOut.TheVariants.{Atomic, Packet}
use Rattle.ebpf_decode.specs.declared.opcode.Opcode.{Opcode}
use Rattle.ebpf_decode.specs.declared.opcode.Opcode.TheVariants as opcodes
use Rattle.ebpf_decode.specs.declared.opcode.Operand.{Operand}
use Rattle.ebpf_decode.specs.declared.opcode.Operand.TheVariants as operands
use Rattle.ebpf_decode.specs.declared.opcode.Uses.{Uses}
use Rattle.instruction_set.specs.declared.operation.Width.{Width}
use Rattle.instruction_set.specs.declared.operation.Width.TheVariants as widths
use Rattle.instruction_set.specs.declared.operation.Size.TheVariants as sizes
use Rattle.instruction_set.specs.declared.codes.TheConstants.{LD, LDX, ST, STX, IMM, MEM, MEMSX, NEG, JA, CALL, EXIT}
use Rattle.instruction_set.specs.Spelling.{access_opcode, operation_opcode, arithmetic_class, jump_class, size_code}
use Rattle.instruction_set.specs.Codes.{size_with, signed_size_with, operation_with, swap_with, relation_with, has_variants}

-- where an opcode has its second operand: its source bit (RFC 9669, 4)
abbrev pub operand_of : ℕ → Operand
operand_of opcode = if opcode / 8 % 2 == 0 then operands.Immediate else operands.Register

-- class LD: the wide instruction; packet loads are left out (RFC 9669, 5.4 and 5.5)
abbrev pub load_immediate_opcode : ℕ → Option Opcode
load_immediate_opcode opcode =
    if opcode == access_opcode IMM (size_code sizes.DoubleWord) LD then Some opcodes.LoadImmediate
    else if list_any (λ left_out. left_out == opcode) (0x20 ∷ 0x28 ∷ 0x30 ∷ 0x40 ∷ 0x48 ∷ 0x50 ∷ []) then Some (opcodes.LeftOut Packet)
    else None

-- class LDX: loads by their mode and size (RFC 9669, 5.1 and 5.2)
abbrev pub load_opcode : ℕ → Option Opcode
load_opcode opcode =
    if opcode / 32 == MEM then option_map opcodes.Load (size_with (opcode / 8 % 4))
    else if opcode / 32 == MEMSX then option_map opcodes.LoadSigned (signed_size_with (opcode / 8 % 4))
    else None

-- class ST (RFC 9669, 5.1)
abbrev pub store_immediate_opcode : ℕ → Option Opcode
store_immediate_opcode opcode =
    if opcode / 32 == MEM then option_map opcodes.StoreImmediate (size_with (opcode / 8 % 4)) else None

-- class STX; atomic operations are left out (RFC 9669, 5.1 and 5.3)
abbrev pub store_register_opcode : ℕ → Option Opcode
store_register_opcode opcode =
    if opcode / 32 == MEM then option_map opcodes.StoreRegister (size_with (opcode / 8 % 4))
    else if list_any (λ left_out. left_out == opcode) (0xc3 ∷ 0xdb ∷ []) then Some (opcodes.LeftOut Atomic)
    else None

-- classes ALU and ALU64: negation, byte swaps, and the other operations by their code (RFC 9669, 4.1 and 4.2)
abbrev pub arithmetic_opcode : Width → ℕ → Option Opcode
arithmetic_opcode width opcode =
    if opcode == operation_opcode NEG 0 (arithmetic_class width) then Some (opcodes.Negate width)
    else option_or (option_map opcodes.SwapBytes (swap_with opcode))
    (option_map (λ operation. opcodes.Arithmetic width operation (operand_of opcode)) (operation_with (opcode / 16)))

-- conditional jumps by their code (RFC 9669, 4.3)
abbrev pub branch_opcode : Width → ℕ → Option Opcode
branch_opcode width opcode = option_map (λ relation. opcodes.Branch width relation (operand_of opcode)) (relation_with (opcode / 16))

-- class JMP (RFC 9669, 4.3)
abbrev pub jump_opcode : ℕ → Option Opcode
jump_opcode opcode =
    if opcode == operation_opcode JA 0 (jump_class widths.Bits64) then Some opcodes.Jump
    else if opcode == operation_opcode CALL 0 (jump_class widths.Bits64) then Some opcodes.Call
    else if opcode == operation_opcode EXIT 0 (jump_class widths.Bits64) then Some opcodes.Exit
    else branch_opcode widths.Bits64 opcode

-- class JMP32 (RFC 9669, 4.3)
abbrev pub jump_long_opcode : ℕ → Option Opcode
jump_long_opcode opcode =
    if opcode == operation_opcode JA 0 (jump_class widths.Bits32) then Some opcodes.JumpLong
    else branch_opcode widths.Bits32 opcode

-- the classes, each with what its opcodes name (RFC 9669, 3.3)
abbrev pub classes : List (ℕ × (ℕ → Option Opcode))
classes =
    (LD, load_immediate_opcode)
    ∷ (LDX, load_opcode)
    ∷ (ST, store_immediate_opcode)
    ∷ (STX, store_register_opcode)
    ∷ (arithmetic_class widths.Bits32, arithmetic_opcode widths.Bits32)
    ∷ (jump_class widths.Bits64, jump_opcode)
    ∷ (jump_class widths.Bits32, jump_long_opcode)
    ∷ (arithmetic_class widths.Bits64, arithmetic_opcode widths.Bits64)
    ∷ []

-- what an opcode names, by its class
abbrev pub opcode_named : ℕ → Option Opcode
opcode_named opcode = option_and_then (λ class. class.1 opcode) (find (λ class. class.0 == opcode % 8) classes)

-- is the second operand in the immediate?
abbrev pub is_immediate : Operand → Bool
is_immediate operands.Immediate = true
is_immediate operands.Register = false

-- is it in a register?
abbrev pub is_register : Operand → Bool
is_register operands.Immediate = false
is_register operands.Register = true

-- of the fields dst, src, offset and immediate, those that are used
abbrev pub fields_used : Bool → Bool → Bool → Bool → Uses
fields_used dst src offset immediate = record { dst = dst; src = src; offset = offset; immediate = immediate }

-- which of the fields dst, src, offset and immediate an instruction uses
abbrev pub uses : Opcode → Uses
uses opcodes.LoadImmediate = fields_used true false false true
uses (opcodes.Load size) = fields_used true true true false
uses (opcodes.LoadSigned size) = fields_used true true true false
uses (opcodes.StoreImmediate size) = fields_used true false true true
uses (opcodes.StoreRegister size) = fields_used true true true false
uses (opcodes.Arithmetic width operation operand) = fields_used true (is_register operand) (has_variants operation) (is_immediate operand)
uses (opcodes.Negate width) = fields_used true false false false
uses (opcodes.SwapBytes swap) = fields_used true false false true
uses opcodes.Jump = fields_used false false true false
uses opcodes.JumpLong = fields_used false false false true
uses (opcodes.Branch width relation operand) = fields_used true (is_register operand) true (is_immediate operand)
uses opcodes.Call = fields_used false false false true
uses opcodes.Exit = fields_used false false false false
uses (opcodes.LeftOut which) = fields_used false false false false
