-- The slots that spell an instruction are read as it.
use Rattle.std.proofs.Common.{◌≡◌, ℕ, pos, ◌+◌, ◌*◌, ◌%◌, ◌/◌, ◌^◌, ◌<◌, false, not, ◌&&◌, cond, Option, Some, None, Ok, is_none, refl, sym, ap, ◌∙◌, arith}
use Rattle.std.specs.Option.{ok_or}
use Rattle.std.specs.Ordering.{int_eq}
use Rattle.std.specs.Int.{w32, cast_signed, cast_unsigned}
use Rattle.std.proofs.lemmas.Bool.{and_right, lt-leb, or_from}
use Rattle.std.proofs.lemmas.Int.{of_z-to_z}
use Rattle.instruction_set.specs.declared.fields.Fields.{Fields}
use Rattle.instruction_set.specs.declared.instruction.Instruction.{Instruction}
use Rattle.instruction_set.specs.declared.instruction.Instruction.TheVariants as instructions
use Rattle.instruction_set.specs.declared.instruction.Source.TheVariants as sources
use Rattle.ebpf_decode.specs.declared.opcode.Opcode.{Opcode}
use Rattle.ebpf_decode.specs.declared.opcode.Opcode.TheVariants.{LoadImmediate, Load, LoadSigned, StoreImmediate, StoreRegister, Arithmetic, Negate, SwapBytes, Jump, JumpLong, Branch, Call, Exit}
use Rattle.ebpf_decode.specs.declared.opcode.Operand.TheVariants as operands
use Rattle.ebpf_decode.specs.declared.opcode.Uses.{Uses}
use Rattle.instruction_set.specs.declared.operation.Operation.{Operation}
use Rattle.instruction_set.specs.declared.operation.Operation.TheVariants.{Add, Subtract, Multiply, Divide, SignedDivide, Or, And, LeftShift, RightShift, Modulo, SignedModulo, Xor, Move, ArithmeticShift}
use Rattle.instruction_set.specs.declared.operation.Relation.{Relation}
use Rattle.instruction_set.specs.declared.operation.Relation.TheVariants.{Equal, Greater, GreaterOrEqual, AnyBitSet, NotEqual, SignedGreater, SignedGreaterOrEqual, Less, LessOrEqual, SignedLess, SignedLessOrEqual}
use Rattle.instruction_set.specs.declared.operation.SignExtension.{SignExtension}
use Rattle.instruction_set.specs.declared.operation.SignExtension.TheVariants.{Bits8To32, Bits16To32, Bits8To64, Bits16To64, Bits32To64}
use Rattle.instruction_set.specs.declared.operation.Size.{Size}
use Rattle.instruction_set.specs.declared.operation.Size.TheVariants as sizes
use Rattle.instruction_set.specs.declared.operation.SignedSize.{SignedSize}
use Rattle.instruction_set.specs.declared.operation.SignedSize.TheVariants as signed_sizes
use Rattle.instruction_set.specs.declared.operation.Swap.{Swap}
use Rattle.instruction_set.specs.declared.operation.Swap.TheVariants.{ToLittle, ToBig, Reverse}
use Rattle.instruction_set.specs.declared.operation.SwapSize.{SwapSize}
use Rattle.instruction_set.specs.declared.operation.SwapSize.TheVariants as kept
use Rattle.instruction_set.specs.declared.operation.Width.{Width}
use Rattle.instruction_set.specs.declared.operation.Width.TheVariants as widths
use Rattle.instruction_set.specs.Codes.{extension_with, has_variants, swap_size_with, variant_with}
use Rattle.ebpf_decode.specs.Opcodes.{opcode_named, uses}
use Rattle.instruction_set.specs.Program.{is_wide}
use Rattle.ebpf_decode.specs.declared.fault.FaultKind.TheVariants as kinds
use Rattle.common_definitions.specs.Readings.{unless_fault}
use Rattle.program_interface.specs.declared.registers.TheConstants.{REGISTERS}
use Rattle.ebpf_decode.specs.Reading.{first_fault, has_more, has_no_register, has_unused, instruction_with, is_left_out, is_load_immediate, read, read_named}
use Rattle.instruction_set.specs.declared.codes.TheConstants.{LDX, MEM, MEMSX, NEG, ST, STX}
use Rattle.instruction_set.specs.Spelling.{Fits, access_opcode, arithmetic_class, extension_offset, extension_width, first_slot, jump_class, kept_bits, operation_code, operation_offset, operation_opcode, relation_code, second_slot, signed_size_code, size_code, swap_opcode}

-- ---- what the opcodes of instructions name

load-named : (size : Size) → opcode_named (access_opcode MEM (size_code size) LDX) ≡ Some (Load size)
load-named sizes.Byte = refl
load-named sizes.HalfWord = refl
load-named sizes.Word = refl
load-named sizes.DoubleWord = refl

load_signed-named : (size : SignedSize) → opcode_named (access_opcode MEMSX (signed_size_code size) LDX) ≡ Some (LoadSigned size)
load_signed-named signed_sizes.Byte = refl
load_signed-named signed_sizes.HalfWord = refl
load_signed-named signed_sizes.Word = refl

store_immediate-named : (size : Size) → opcode_named (access_opcode MEM (size_code size) ST) ≡ Some (StoreImmediate size)
store_immediate-named sizes.Byte = refl
store_immediate-named sizes.HalfWord = refl
store_immediate-named sizes.Word = refl
store_immediate-named sizes.DoubleWord = refl

store_register-named : (size : Size) → opcode_named (access_opcode MEM (size_code size) STX) ≡ Some (StoreRegister size)
store_register-named sizes.Byte = refl
store_register-named sizes.HalfWord = refl
store_register-named sizes.Word = refl
store_register-named sizes.DoubleWord = refl

-- the operation of the same code whose offset is 0
abbrev plain : Operation → Operation
plain SignedDivide = Divide
plain SignedModulo = Modulo
plain operation = operation

abbrev ArithmeticNamed : Operation → Width → Type 0
ArithmeticNamed operation width =
    (opcode_named (operation_opcode (operation_code operation) 0 (arithmetic_class width)) ≡ Some (Arithmetic width (plain operation) operands.Immediate))
    × (opcode_named (operation_opcode (operation_code operation) 1 (arithmetic_class width)) ≡ Some (Arithmetic width (plain operation) operands.Register))

-- an operation's opcodes name it, and its offset tells it
abbrev OperationTold : Operation → Type 0
OperationTold operation =
    ArithmeticNamed operation widths.Bits32 × ArithmeticNamed operation widths.Bits64
    × ((not (has_variants (plain operation)) && not (int_eq (operation_offset operation) (pos 0))) ≡ false)
    × (variant_with (plain operation) (operation_offset operation) ≡ Some operation)

operation-told : (operation : Operation) → OperationTold operation
operation-told Add = ((refl, refl), (refl, refl), refl, refl)
operation-told Subtract = ((refl, refl), (refl, refl), refl, refl)
operation-told Multiply = ((refl, refl), (refl, refl), refl, refl)
operation-told Divide = ((refl, refl), (refl, refl), refl, refl)
operation-told SignedDivide = ((refl, refl), (refl, refl), refl, refl)
operation-told Or = ((refl, refl), (refl, refl), refl, refl)
operation-told And = ((refl, refl), (refl, refl), refl, refl)
operation-told LeftShift = ((refl, refl), (refl, refl), refl, refl)
operation-told RightShift = ((refl, refl), (refl, refl), refl, refl)
operation-told Modulo = ((refl, refl), (refl, refl), refl, refl)
operation-told SignedModulo = ((refl, refl), (refl, refl), refl, refl)
operation-told Xor = ((refl, refl), (refl, refl), refl, refl)
operation-told Move = ((refl, refl), (refl, refl), refl, refl)
operation-told ArithmeticShift = ((refl, refl), (refl, refl), refl, refl)

arithmetic-named : (operation : Operation) (width : Width) → ArithmeticNamed operation width
arithmetic-named operation widths.Bits32 = (operation-told operation).0
arithmetic-named operation widths.Bits64 = (operation-told operation).1

abbrev BranchNamed : Relation → Width → Type 0
BranchNamed relation width =
    (opcode_named (operation_opcode (relation_code relation) 0 (jump_class width)) ≡ Some (Branch width relation operands.Immediate))
    × (opcode_named (operation_opcode (relation_code relation) 1 (jump_class width)) ≡ Some (Branch width relation operands.Register))

relation-told : (relation : Relation) → BranchNamed relation widths.Bits32 × BranchNamed relation widths.Bits64
relation-told Equal = ((refl, refl), (refl, refl))
relation-told Greater = ((refl, refl), (refl, refl))
relation-told GreaterOrEqual = ((refl, refl), (refl, refl))
relation-told AnyBitSet = ((refl, refl), (refl, refl))
relation-told NotEqual = ((refl, refl), (refl, refl))
relation-told SignedGreater = ((refl, refl), (refl, refl))
relation-told SignedGreaterOrEqual = ((refl, refl), (refl, refl))
relation-told Less = ((refl, refl), (refl, refl))
relation-told LessOrEqual = ((refl, refl), (refl, refl))
relation-told SignedLess = ((refl, refl), (refl, refl))
relation-told SignedLessOrEqual = ((refl, refl), (refl, refl))

branch-named : (relation : Relation) (width : Width) → BranchNamed relation width
branch-named relation widths.Bits32 = (relation-told relation).0
branch-named relation widths.Bits64 = (relation-told relation).1

negate-named : (width : Width) → opcode_named (operation_opcode NEG 0 (arithmetic_class width)) ≡ Some (Negate width)
negate-named widths.Bits32 = refl
negate-named widths.Bits64 = refl

swap-named : (swap : Swap) → opcode_named (swap_opcode swap) ≡ Some (SwapBytes swap)
swap-named ToLittle = refl
swap-named ToBig = refl
swap-named Reverse = refl

swap_size-told : (size : SwapSize) → swap_size_with (kept_bits size) ≡ Some size
swap_size-told kept.Bits16 = refl
swap_size-told kept.Bits32 = refl
swap_size-told kept.Bits64 = refl

abbrev ExtensionTold : SignExtension → Type 0
ExtensionTold extension =
    (opcode_named (operation_opcode (operation_code Move) 1 (arithmetic_class (extension_width extension))) ≡ Some (Arithmetic (extension_width extension) Move operands.Register))
    × (variant_with Move (extension_offset extension) ≡ None)
    × (extension_with (extension_width extension) Move (extension_offset extension) ≡ Some extension)

extension-told : (extension : SignExtension) → ExtensionTold extension
extension-told Bits8To32 = (refl, refl, refl)
extension-told Bits16To32 = (refl, refl, refl)
extension-told Bits8To64 = (refl, refl, refl)
extension-told Bits16To64 = (refl, refl, refl)
extension-told Bits32To64 = (refl, refl, refl)

-- ---- reading

no-register : (used : Uses) (f : Fields) → f.dst < 11 → f.src < 11 → has_no_register used f ≡ false
no-register used f dst src =
    or_from _ _ (and_right used.dst _ (lt-leb REGISTERS f.dst (omega arith))) (and_right used.src _ (lt-leb REGISTERS f.src (omega arith)))

answered : (f : Fields) (next : Option Fields) (opcode : Opcode) (i : Instruction) → opcode_named f.opcode ≡ Some opcode → f.dst < 11 → f.src < 11
    → is_left_out opcode f ≡ false → (is_load_immediate opcode && is_none next) ≡ false
    → has_unused (uses opcode) f ≡ false → (is_load_immediate opcode && has_more next) ≡ false
    → instruction_with opcode f next ≡ Some i → read f next ≡ Ok i
answered f next opcode i named dst src left_out cut unused more found =
    let registers : has_no_register (uses opcode) f ≡ false = no-register (uses opcode) f dst src in
    let fault : first_fault opcode f next ≡ None = rw (left_out, cut, registers, unused, more) refl in
    ap (λ m. read_named m f next) named ∙ ap (λ k. unless_fault k (ok_or (instruction_with opcode f next) kinds.Value)) fault
    ∙ ap (λ instruction. ok_or instruction kinds.Value) found

narrow : (i : Instruction) (next : Option Fields) (opcode : Opcode) → Fits i → opcode_named (first_slot i).opcode ≡ Some opcode
    → is_left_out opcode (first_slot i) ≡ false → is_load_immediate opcode ≡ false → has_unused (uses opcode) (first_slot i) ≡ false
    → instruction_with opcode (first_slot i) next ≡ Some i → read (first_slot i) next ≡ Ok i
narrow i next opcode fits named left_out wide unused found =
    answered (first_slot i) next opcode i named fits.dst fits.src left_out (rw wide refl) unused (rw wide refl) found

wide : (dst value : ℕ) → Fits (instructions.LoadImmediate dst value)
    → read (first_slot (instructions.LoadImmediate dst value)) (second_slot (instructions.LoadImmediate dst value)) ≡ Ok (instructions.LoadImmediate dst value)
wide dst value fits =
    let i = instructions.LoadImmediate dst value in
    let low : cast_unsigned w32 (cast_signed w32 (value % 2 ^ 32)) ≡ value % 2 ^ 32 = of_z-to_z w32 (value % 2 ^ 32) (omega arith) in
    let high : cast_unsigned w32 (cast_signed w32 (value / 2 ^ 32 % 2 ^ 32)) ≡ value / 2 ^ 32 % 2 ^ 32 = of_z-to_z w32 (value / 2 ^ 32 % 2 ^ 32) (omega arith) in
    let below : value < 2 ^ 64 = fits.value in
    let whole : cast_unsigned w32 (cast_signed w32 (value % 2 ^ 32)) + 2 ^ 32 * cast_unsigned w32 (cast_signed w32 (value / 2 ^ 32 % 2 ^ 32)) ≡ value = omega arith in
    answered (first_slot i) (second_slot i) LoadImmediate i refl fits.dst fits.src refl refl refl refl (ap (λ n. Some (instructions.LoadImmediate dst n)) whole)

-- the slots that spell an instruction are read as it
pub read-again : (i : Instruction) (next : Option Fields) → Fits i → second_slot i ≡ cond (is_wide i) next None → read (first_slot i) next ≡ Ok i
read-again (instructions.LoadImmediate dst value) next fits second =
    ap (read (first_slot (instructions.LoadImmediate dst value))) (sym second) ∙ wide dst value fits
read-again (instructions.Load size dst src offset) next fits second = narrow _ next (Load size) fits (load-named size) refl refl refl refl
read-again (instructions.LoadSigned size dst src offset) next fits second = narrow _ next (LoadSigned size) fits (load_signed-named size) refl refl refl refl
read-again (instructions.StoreImmediate size dst offset value) next fits second = narrow _ next (StoreImmediate size) fits (store_immediate-named size) refl refl refl refl
read-again (instructions.StoreRegister size dst src offset) next fits second = narrow _ next (StoreRegister size) fits (store_register-named size) refl refl refl refl
read-again (instructions.Arithmetic width operation dst (sources.Immediate value)) next fits second =
    let told = operation-told operation in
    narrow _ next (Arithmetic width (plain operation) operands.Immediate) fits (arithmetic-named operation width).0 refl refl (rw told.2 refl) (rw told.3 refl)
read-again (instructions.Arithmetic width operation dst (sources.Register src)) next fits second =
    let told = operation-told operation in
    narrow _ next (Arithmetic width (plain operation) operands.Register) fits (arithmetic-named operation width).1 refl refl (rw told.2 refl) (rw told.3 refl)
read-again (instructions.Negate width dst) next fits second = narrow _ next (Negate width) fits (negate-named width) refl refl refl refl
read-again (instructions.MoveSigned extension dst src) next fits second =
    let told = extension-told extension in
    narrow _ next (Arithmetic (extension_width extension) Move operands.Register) fits told.0 refl refl refl (rw (told.1, told.2) refl)
read-again (instructions.SwapBytes swap size dst) next fits second = narrow _ next (SwapBytes swap) fits (swap-named swap) refl refl refl (rw (swap_size-told size) refl)
read-again (instructions.Jump distance) next fits second = narrow _ next Jump fits refl refl refl refl refl
read-again (instructions.JumpLong distance) next fits second = narrow _ next JumpLong fits refl refl refl refl refl
read-again (instructions.Branch width relation dst (sources.Immediate value) distance) next fits second =
    narrow _ next (Branch width relation operands.Immediate) fits (branch-named relation width).0 refl refl refl refl
read-again (instructions.Branch width relation dst (sources.Register src) distance) next fits second =
    narrow _ next (Branch width relation operands.Register) fits (branch-named relation width).1 refl refl refl refl
read-again (instructions.Call helper) next fits second = narrow _ next Call fits refl refl refl refl refl
read-again instructions.Exit next fits second = narrow _ next Exit fits refl refl refl refl refl
