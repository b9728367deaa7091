-- What is read from a slot is spelled by it.
use Rattle.std.proofs.Common.{◌≡◌, FitsSigned, ℕ, ℤ, pos, ◌+◌, ◌*◌, ◌%◌, ◌/◌, ◌^◌, ◌<◌, Bool, true, false, not, ◌&&◌, cond, eqb, leb, [], ◌∷◌, Option, Some, None, Ok, is_none, option_map, refl, sym, ap, subst, ◌∙◌, arith}
use Rattle.std.specs.Ordering.{int_eq}
use Rattle.std.specs.Int.{w16, w32, cast_signed, cast_unsigned}
use Rattle.std.specs.Option.{ok_or, option_or}
use Rattle.std.proofs.lemmas.Bool.{agree_below_at, and_parts, eqb-true, leb-false, not-false, not-true, or_parts}
use Rattle.std.proofs.lemmas.Bool.Decides.{Decides-int_eq}
use Rattle.std.proofs.lemmas.Int.{ints, to_z-of_z}
use Rattle.common_definitions.proofs.Proved.{demanded, found_passes, found_where_ok, no_fault, no_fault_where_none_fails}
use Rattle.ebpf_decode.specs.declared.fault.FaultKind.{FaultKind}
use Rattle.ebpf_decode.specs.declared.fault.FaultKind.TheVariants as kinds
use Rattle.program_interface.specs.declared.registers.TheConstants.{REGISTERS}
use Rattle.instruction_set.specs.declared.fields.Fields.{Fields}
use Rattle.instruction_set.specs.declared.instruction.Instruction.{Instruction}
use Rattle.instruction_set.specs.declared.instruction.Instruction.TheVariants as instructions
use Rattle.ebpf_decode.specs.declared.opcode.Opcode.{Opcode}
use Rattle.ebpf_decode.specs.declared.opcode.Opcode.TheVariants.{LoadImmediate, Load, LoadSigned, StoreImmediate, StoreRegister, Arithmetic, Negate, SwapBytes, Jump, JumpLong, Branch, Call, Exit, LeftOut}
use Rattle.ebpf_decode.specs.declared.opcode.Operand.{Operand}
use Rattle.ebpf_decode.specs.declared.opcode.Operand.TheVariants as operands
use Rattle.ebpf_decode.specs.declared.opcode.Uses.{Uses}
use Rattle.instruction_set.specs.declared.instruction.Source.TheVariants as sources
use Rattle.instruction_set.specs.declared.operation.Operation.{Operation}
use Rattle.instruction_set.specs.declared.operation.Operation.TheVariants.{SignedDivide, SignedModulo, Move}
use Rattle.instruction_set.specs.declared.operation.SignExtension.TheVariants.{Bits8To32, Bits16To32, Bits8To64, Bits16To64, Bits32To64}
use Rattle.instruction_set.specs.declared.operation.Size.TheVariants as sizes
use Rattle.instruction_set.specs.declared.operation.SwapSize.TheVariants as kept
use Rattle.instruction_set.specs.declared.operation.Width.{Width}
use Rattle.instruction_set.specs.declared.operation.Width.TheVariants as widths
use Rattle.instruction_set.specs.Codes.{extension_with, plain_operations, swap_size_with, variant_with, width_eq}
use Rattle.ebpf_decode.specs.FirstFault.{Begins}
use Rattle.ebpf_decode.specs.Opcodes.{opcode_named, uses}
use Rattle.instruction_set.specs.Program.{is_wide}
use Rattle.ebpf_decode.specs.Reading.{checks, first_fault, has_more, has_no_register, has_unused, instruction_with, is_load_immediate, read, read_named, signed_move, source_of}
use Rattle.instruction_set.specs.declared.codes.TheConstants.{CALL, EXIT, IMM, JA, LD, LDX, MEM, MEMSX, NEG, ST, STX}
use Rattle.instruction_set.specs.Spelling.{HasValue, access_opcode, arithmetic_class, extension_offset, extension_width, first_slot, jump_class, kept_bits, operation_code, operation_offset, operation_opcode, relation_code, second_slot, signed_size_code, size_code, slot, swap_opcode}

-- ---- opcodes

abbrev operand_bit : Operand → ℕ
operand_bit operands.Immediate = 0
operand_bit operands.Register = 1

-- the opcode of what an opcode names
abbrev opcode_of : Opcode → ℕ
opcode_of LoadImmediate = access_opcode IMM (size_code sizes.DoubleWord) LD
opcode_of (Load size) = access_opcode MEM (size_code size) LDX
opcode_of (LoadSigned size) = access_opcode MEMSX (signed_size_code size) LDX
opcode_of (StoreImmediate size) = access_opcode MEM (size_code size) ST
opcode_of (StoreRegister size) = access_opcode MEM (size_code size) STX
opcode_of (Arithmetic width operation operand) = operation_opcode (operation_code operation) (operand_bit operand) (arithmetic_class width)
opcode_of (Negate width) = operation_opcode NEG 0 (arithmetic_class width)
opcode_of (SwapBytes swap) = swap_opcode swap
opcode_of Jump = operation_opcode JA 0 (jump_class widths.Bits64)
opcode_of JumpLong = operation_opcode JA 0 (jump_class widths.Bits32)
opcode_of (Branch width relation operand) = operation_opcode (relation_code relation) (operand_bit operand) (jump_class width)
opcode_of Call = operation_opcode CALL 0 (jump_class widths.Bits64)
opcode_of Exit = operation_opcode EXIT 0 (jump_class widths.Bits64)
opcode_of (LeftOut which) = 0

abbrev is_of : Option Opcode → ℕ → Bool
is_of None opcode = true
is_of (Some (LeftOut which)) opcode = true
is_of (Some named) opcode = eqb (opcode_of named) opcode

-- an opcode is that of what it names
named-is : (opcode : ℕ) → opcode < 256 → is_of (opcode_named opcode) opcode ≡ true
named-is opcode h = agree_below_at (λ n. is_of (opcode_named n) n) (λ _. true) 256 opcode refl h

-- ---- what an instruction without a fault knows of its fields

zero_when : (used : Bool) (n : ℕ) → (not used && not (eqb n 0)) ≡ false → used ≡ false → n ≡ 0
zero_when true n h e = absurd cc
zero_when false n h e = eqb-true n 0 (not-false _ h)

int_zero_when : (used : Bool) (z : ℤ) → (not used && not (int_eq z (pos 0))) ≡ false → used ≡ false → z ≡ pos 0
int_zero_when true z h e = absurd cc
int_zero_when false z h e = (Decides-int_eq z (pos 0)).0 (not-false _ h)

low_when : (used : Bool) (n : ℕ) → (used && leb REGISTERS n) ≡ false → used ≡ true → n < 11
low_when true n h e = omega (arith, leb-false REGISTERS n h)
low_when false n h e = absurd cc

low : (used : Bool) (n : ℕ) → (used ≡ true → n < 11) → (used ≡ false → n ≡ 0) → n < 11
low true n below unused = below refl
low false n below unused = omega (arith, unused refl)

-- fields that aren't used are 0, and registers that are used are there
record IsUsed (used : Uses) (f : Fields) : Type 0 where
  dst : used.dst ≡ false → f.dst ≡ 0
  src : used.src ≡ false → f.src ≡ 0
  offset : used.offset ≡ false → f.offset ≡ pos 0
  immediate : used.immediate ≡ false → f.immediate ≡ pos 0
  low_dst : f.dst < 11
  low_src : f.src < 11

is_used : (used : Uses) (f : Fields) → has_no_register used f ≡ false → has_unused used f ≡ false → IsUsed used f
is_used used f registers unused =
    let r = or_parts (used.dst && leb REGISTERS f.dst) (used.src && leb REGISTERS f.src) registers in
    let p = or_parts _ (not used.immediate && not (int_eq f.immediate (pos 0))) unused in
    let q = or_parts _ (not used.offset && not (int_eq f.offset (pos 0))) p.0 in
    let s = or_parts (not used.dst && not (eqb f.dst 0)) (not used.src && not (eqb f.src 0)) q.0 in
    record {
      dst = zero_when used.dst f.dst s.0;
      src = zero_when used.src f.src s.1;
      offset = int_zero_when used.offset f.offset q.1;
      immediate = int_zero_when used.immediate f.immediate p.1;
      low_dst = low used.dst f.dst (low_when used.dst f.dst r.0) (zero_when used.dst f.dst s.0);
      low_src = low used.src f.src (low_when used.src f.src r.1) (zero_when used.src f.src s.1);
    }

-- ---- each row

slot-is : (f : Fields) (opcode dst src : ℕ) (offset immediate : ℤ)
    → opcode ≡ f.opcode → dst ≡ f.dst → src ≡ f.src → offset ≡ f.offset → immediate ≡ f.immediate
    → slot opcode dst src offset immediate ≡ f
slot-is f opcode dst src offset immediate o d s t i = rw (o, d, s, t, i) refl

-- the instruction is spelled by the slot, and by the next one where it is wide
abbrev IsSpelled : Fields → Option Fields → Instruction → Type 0
IsSpelled f next i = (first_slot i ≡ f) × (second_slot i ≡ cond (is_wide i) next None) × HasValue i

moved : (f : Fields) (next : Option Fields) (x i : Instruction) → Some x ≡ Some i → IsSpelled f next x → IsSpelled f next i
moved f next x i e spelled = let same : x ≡ i = cc in subst (IsSpelled f next) same spelled

map-some : {X Y : Type 0} (f : X → Y) (m : Option X) (y : Y) → option_map f m ≡ Some y → (x : X) × (m ≡ Some x) × (Some (f x) ≡ Some y)
map-some f None y e = absurd cc
map-some f (Some x) y e = (x, refl, e)

-- the fields of a slot's bytes
pub record AreFields (f : Fields) : Type 0 where
  pub opcode : f.opcode < 256
  pub offset : FitsSigned w16 f.offset
  pub immediate : FitsSigned w32 f.immediate

abbrev pub AreFieldsIn : Option Fields → Type 0
AreFieldsIn None = Unit {0}
AreFieldsIn (Some f) = AreFields f

pub below-32 : (z : ℤ) → FitsSigned w32 z → cast_unsigned w32 z < 2 ^ 32
below-32 z fits = omega (arith, ints)

low-half : (z : ℤ) (high : ℕ) → FitsSigned w32 z → cast_signed w32 ((cast_unsigned w32 z + 2 ^ 32 * high) % 2 ^ 32) ≡ z
low-half z high fits =
    let low : (cast_unsigned w32 z + 2 ^ 32 * high) % 2 ^ 32 ≡ cast_unsigned w32 z = omega (arith, below-32 z fits) in
    ap (cast_signed w32) low ∙ to_z-of_z w32 z fits

high-half : (low : ℕ) (z : ℤ) → low < 2 ^ 32 → FitsSigned w32 z → cast_signed w32 ((low + 2 ^ 32 * cast_unsigned w32 z) / 2 ^ 32 % 2 ^ 32) ≡ z
high-half low z h fits =
    let high : (low + 2 ^ 32 * cast_unsigned w32 z) / 2 ^ 32 % 2 ^ 32 ≡ cast_unsigned w32 z = omega (arith, below-32 z fits) in
    ap (cast_signed w32) high ∙ to_z-of_z w32 z fits

-- an arithmetic operation, or a sign-extending move
module _ (width : Width) (operation : Operation) (f : Fields) (next : Option Fields) (i : Instruction) where
  with-variant : (operand : Operand) (v : Operation) → eqb (opcode_of (Arithmetic width operation operand)) f.opcode ≡ true
      → IsUsed (uses (Arithmetic width operation operand)) f → variant_with operation f.offset ≡ Some v
      → Some (instructions.Arithmetic width v f.dst (source_of operand f)) ≡ Some i → IsSpelled f next i
  with-variant operand v named used found e =
      let test = and_parts _ _ (found_passes (λ variant. eqb (operation_code variant) (operation_code operation) && int_eq (operation_offset variant) f.offset) (SignedDivide ∷ SignedModulo ∷ plain_operations) v found) in
      let code : operation_code v ≡ operation_code operation = eqb-true _ _ test.0 in
      let offset : operation_offset v ≡ f.offset = (Decides-int_eq _ _).0 test.1 in
      with-operand operand code offset named used e
    where
      with-operand : (operand : Operand) → operation_code v ≡ operation_code operation → operation_offset v ≡ f.offset
          → eqb (opcode_of (Arithmetic width operation operand)) f.opcode ≡ true
          → IsUsed (uses (Arithmetic width operation operand)) f
          → Some (instructions.Arithmetic width v f.dst (source_of operand f)) ≡ Some i → IsSpelled f next i
      with-operand operands.Immediate code offset named used e =
          moved f next (instructions.Arithmetic width v f.dst (sources.Immediate f.immediate)) i e
          (slot-is f _ _ _ _ _ (ap (λ n. operation_opcode n 0 (arithmetic_class width)) code ∙ eqb-true _ _ named) refl (sym (used.src refl)) offset refl, refl, tt)
      with-operand operands.Register code offset named used e =
          moved f next (instructions.Arithmetic width v f.dst (sources.Register f.src)) i e
          (slot-is f _ _ _ _ _ (ap (λ n. operation_opcode n 1 (arithmetic_class width)) code ∙ eqb-true _ _ named) refl refl offset (sym (used.immediate refl)), refl, tt)

  with-extension : (operand : Operand) → eqb (opcode_of (Arithmetic width operation operand)) f.opcode ≡ true
      → IsUsed (uses (Arithmetic width operation operand)) f → signed_move width operation operand f ≡ Some i → IsSpelled f next i
  with-extension operands.Immediate named used e = absurd cc
  with-extension operands.Register named used e =
      let found = map-some (λ extension. instructions.MoveSigned extension f.dst f.src) (extension_with width operation f.offset) i e in
      let extension = found.0 in
      let test = and_parts _ _ (found_passes (λ extension. width_eq (extension_width extension) width && eqb (operation_code operation) (operation_code Move) && int_eq (extension_offset extension) f.offset) (Bits8To32 ∷ Bits16To32 ∷ Bits8To64 ∷ Bits16To64 ∷ Bits32To64 ∷ []) extension found.1) in
      let front = and_parts _ _ test.0 in
      let class : arithmetic_class (extension_width extension) ≡ arithmetic_class width = eqb-true _ _ front.0 in
      let code : operation_code operation ≡ operation_code Move = eqb-true _ _ front.1 in
      let offset : extension_offset extension ≡ f.offset = (Decides-int_eq _ _).0 test.1 in
      moved f next (instructions.MoveSigned extension f.dst f.src) i found.2
      (slot-is f _ _ _ _ _ (ap (λ n. operation_opcode n 1 (arithmetic_class (extension_width extension))) (sym code) ∙ ap (operation_opcode (operation_code operation) 1) class ∙ eqb-true _ _ named) refl refl offset (sym (used.immediate refl)), refl, tt)

  with-arithmetic : (operand : Operand) (m : Option Operation) → variant_with operation f.offset ≡ m → eqb (opcode_of (Arithmetic width operation operand)) f.opcode ≡ true
      → IsUsed (uses (Arithmetic width operation operand)) f
      → option_or (option_map (λ v. instructions.Arithmetic width v f.dst (source_of operand f)) m) (signed_move width operation operand f) ≡ Some i
      → IsSpelled f next i
  with-arithmetic operand None is named used e = with-extension operand named used e
  with-arithmetic operand (Some v) is named used e = with-variant operand v named used is e

-- what an instruction without a fault is spelled by
row : (opcode : Opcode) (f : Fields) (next : Option Fields) (i : Instruction) → is_of (Some opcode) f.opcode ≡ true → IsUsed (uses opcode) f
    → (is_load_immediate opcode && is_none next) ≡ false → (is_load_immediate opcode && has_more next) ≡ false
    → AreFields f → AreFieldsIn next → instruction_with opcode f next ≡ Some i → IsSpelled f next i
row LoadImmediate f None i named used here more fits others e = absurd cc
row LoadImmediate f (Some g) i named used here more fits others e =
    let p = or_parts _ (not (int_eq g.offset (pos 0))) more in
    let q = or_parts _ (not (eqb g.src 0)) p.0 in
    let r = or_parts (not (eqb g.opcode 0)) (not (eqb g.dst 0)) q.0 in
    let a = cast_unsigned w32 f.immediate in
    let b = cast_unsigned w32 g.immediate in
    let second = slot-is g _ _ _ _ _ (sym (eqb-true _ _ (not-false _ r.0))) (sym (eqb-true _ _ (not-false _ r.1))) (sym (eqb-true _ _ (not-false _ q.1)))
    (sym ((Decides-int_eq g.offset (pos 0)).0 (not-false _ p.1))) (high-half a g.immediate (below-32 f.immediate fits.immediate) others.immediate) in
    moved f (Some g) (instructions.LoadImmediate f.dst (a + 2 ^ 32 * b)) i e (
      slot-is f _ _ _ _ _ (eqb-true _ _ named) refl (sym (used.src refl)) (sym (used.offset refl)) (low-half f.immediate b fits.immediate),
      ap (λ s. Some s) second,
      omega (arith, below-32 f.immediate fits.immediate, below-32 g.immediate others.immediate),
    )
row (Load size) f next i named used here more fits others e =
    moved f next (instructions.Load size f.dst f.src f.offset) i e
    (slot-is f _ _ _ _ _ (eqb-true _ _ named) refl refl refl (sym (used.immediate refl)), refl, tt)
row (LoadSigned size) f next i named used here more fits others e =
    moved f next (instructions.LoadSigned size f.dst f.src f.offset) i e
    (slot-is f _ _ _ _ _ (eqb-true _ _ named) refl refl refl (sym (used.immediate refl)), refl, tt)
row (StoreImmediate size) f next i named used here more fits others e =
    moved f next (instructions.StoreImmediate size f.dst f.offset f.immediate) i e
    (slot-is f _ _ _ _ _ (eqb-true _ _ named) refl (sym (used.src refl)) refl refl, refl, tt)
row (StoreRegister size) f next i named used here more fits others e =
    moved f next (instructions.StoreRegister size f.dst f.src f.offset) i e
    (slot-is f _ _ _ _ _ (eqb-true _ _ named) refl refl refl (sym (used.immediate refl)), refl, tt)
row (Arithmetic width operation operand) f next i named used here more fits others e =
    with-arithmetic width operation f next i operand (variant_with operation f.offset) refl named used e
row (Negate width) f next i named used here more fits others e =
    moved f next (instructions.Negate width f.dst) i e
    (slot-is f _ _ _ _ _ (eqb-true _ _ named) refl (sym (used.src refl)) (sym (used.offset refl)) (sym (used.immediate refl)), refl, tt)
row (SwapBytes swap) f next i named used here more fits others e =
    let found = map-some (λ size. instructions.SwapBytes swap size f.dst) (swap_size_with f.immediate) i e in
    let bits = (Decides-int_eq _ _).0 (found_passes (λ size. int_eq (kept_bits size) f.immediate) (kept.Bits16 ∷ kept.Bits32 ∷ kept.Bits64 ∷ []) found.0 found.1) in
    moved f next (instructions.SwapBytes swap found.0 f.dst) i found.2
    (slot-is f _ _ _ _ _ (eqb-true _ _ named) refl (sym (used.src refl)) (sym (used.offset refl)) bits, refl, tt)
row Jump f next i named used here more fits others e =
    moved f next (instructions.Jump f.offset) i e
    (slot-is f _ _ _ _ _ (eqb-true _ _ named) (sym (used.dst refl)) (sym (used.src refl)) refl (sym (used.immediate refl)), refl, tt)
row JumpLong f next i named used here more fits others e =
    moved f next (instructions.JumpLong f.immediate) i e
    (slot-is f _ _ _ _ _ (eqb-true _ _ named) (sym (used.dst refl)) (sym (used.src refl)) (sym (used.offset refl)) refl, refl, tt)
row (Branch width relation operands.Immediate) f next i named used here more fits others e =
    moved f next (instructions.Branch width relation f.dst (sources.Immediate f.immediate) f.offset) i e
    (slot-is f _ _ _ _ _ (eqb-true _ _ named) refl (sym (used.src refl)) refl refl, refl, tt)
row (Branch width relation operands.Register) f next i named used here more fits others e =
    moved f next (instructions.Branch width relation f.dst (sources.Register f.src) f.offset) i e
    (slot-is f _ _ _ _ _ (eqb-true _ _ named) refl refl refl (sym (used.immediate refl)), refl, tt)
row Call f next i named used here more fits others e =
    moved f next (instructions.Call f.immediate) i e
    (slot-is f _ _ _ _ _ (eqb-true _ _ named) (sym (used.dst refl)) (sym (used.src refl)) (sym (used.offset refl)) refl, refl, tt)
row Exit f next i named used here more fits others e =
    moved f next instructions.Exit i e
    (slot-is f _ _ _ _ _ (eqb-true _ _ named) (sym (used.dst refl)) (sym (used.src refl)) (sym (used.offset refl)) (sym (used.immediate refl)), refl, tt)
row (LeftOut which) f next i named used here more fits others e = absurd cc

read-named : (f : Fields) (next : Option Fields) (i : Instruction) (named : Option Opcode) → opcode_named f.opcode ≡ named
    → AreFields f → AreFieldsIn next → read_named named f next ≡ Ok i → Begins f next i
read-named f next i None is fits others e = absurd cc
read-named f next i (Some opcode) is fits others e =
    let u = no_fault (first_fault opcode f next) (ok_or (instruction_with opcode f next) kinds.Value) i e in
    let found = found_where_ok (instruction_with opcode f next) kinds.Value i u.1 in
    let v = (no_fault_where_none_fails FaultKind (checks opcode f next)).0 u.0 in
    let w = or_parts (has_unused (uses opcode) f) (is_load_immediate opcode && has_more next) (not-true _ (demanded _ _ v.1.1.1.0)) in
    let used = is_used (uses opcode) f (not-true _ (demanded _ _ v.1.1.0)) w.0 in
    let named : is_of (Some opcode) f.opcode ≡ true = ap (λ m. is_of m f.opcode) (sym is) ∙ named-is f.opcode fits.opcode in
    let spelled = row opcode f next i named used (not-true _ (demanded _ _ v.1.0)) w.1 fits others found in
    record {
      fits = record {
        dst = subst (λ (s : Fields). s.dst < 11) (sym spelled.0) used.low_dst;
        src = subst (λ (s : Fields). s.src < 11) (sym spelled.0) used.low_src;
        offset = subst (λ (s : Fields). FitsSigned w16 s.offset) (sym spelled.0) fits.offset;
        immediate = subst (λ (s : Fields). FitsSigned w32 s.immediate) (sym spelled.0) fits.immediate;
        value = spelled.2;
      };
      first = spelled.0;
      second = spelled.1;
    }

-- what is read from a slot is spelled by it
pub read-takes : (f : Fields) (next : Option Fields) (i : Instruction) → AreFields f → AreFieldsIn next → read f next ≡ Ok i → Begins f next i
read-takes f next i fits others e = read-named f next i (opcode_named f.opcode) refl fits others e
