-- A block run that ends by EXIT, as it goes through the pieces of a question's program: loads of fields and of operands.
use Rattle.std.proofs.Common.{ℕ, ℤ, pos, ◌+◌, ◌<◌, ◌≤◌, ◌^◌, ◌%◌, ◌≡◌, Bool, true, false, List, [], ◌∷◌, ◌++◌, length, take, drop, Option, Some, None, refl, subst, arith}
use Rattle.std.proofs.Math.Nat.{mod-eq_of_lt}
use Rattle.std.specs.Int.{w64, cast_unsigned}
use Rattle.std.specs.Prelude.{if◌then◌else◌}
use Rattle.byteorder.specs.Endian.{little_number}
use Rattle.common_definitions.proofs.Proved.{bytes_from}
use Rattle.common_definitions.specs.Bytes.{AreBytes}
use Rattle.instruction_set.specs.Instruction.{size_of}
use Rattle.instruction_set.specs.Program.{instruction_at}
use Rattle.instruction_set.specs.declared.instruction.Instruction.{Instruction}
use Rattle.instruction_set.specs.declared.instruction.Instruction.TheVariants.{Load, LoadImmediate, MoveSigned, SwapBytes}
use Rattle.instruction_set.specs.declared.instruction.Source.{Source}
use Rattle.instruction_set.specs.declared.instruction.Source.TheVariants.{Immediate, Register}
use Rattle.instruction_set.specs.declared.operation.SignExtension.{SignExtension}
use Rattle.instruction_set.specs.declared.operation.Size.{Size}
use Rattle.instruction_set.specs.declared.operation.Swap.TheVariants.{ToBig}
use Rattle.instruction_set.specs.declared.operation.SwapSize.{SwapSize}
use Rattle.program_interface.specs.Area.{address_of}
use Rattle.program_interface.specs.declared.area.Area.TheVariants.{Block, Scratch, Stack}
use Rattle.program_interface.specs.declared.area.TheConstants.{STACK_BYTES}
use Rattle.program_meaning.specs.BlockRun.{block_run_of}
use Rattle.program_meaning.specs.Effect.{operand}
use Rattle.program_meaning.specs.Memory.{Memory}
use Rattle.program_meaning.specs.State.{State}
use Rattle.program_meaning.specs.TrapFree.{IsExit}
use Rattle.record_questions.proofs.Accesses.{loaded_is, number_is}
use Rattle.record_questions.proofs.Numbers.{extended_is, lengthened, number_fits, swapped, swapped_is, word_fits}
use Rattle.record_questions.proofs.Reaching.{Reaches, goes}
use Rattle.record_questions.proofs.Standing.{Stands, back_stands, front_stands, slot_count-append}
use Rattle.record_questions.specs.declared.question.Field.{Field}
use Rattle.record_questions.specs.declared.question.Operand.{Operand}
use Rattle.record_questions.specs.declared.question.Operand.TheVariants as operands
use Rattle.record_questions.specs.Asked.{IsField, IsOperand}
use Rattle.record_questions.specs.Code.{extension_code, extension_of, field_code, is_immediate, operand_code, slot_count, source_of, swap_code, swap_of}
use Rattle.record_questions.specs.Question.{operand_value}
use Rattle.record_questions.specs.Tallies.{word_in}

-- a block run that ends by EXIT, and what doesn't change in it
pub record Course : Type 0 where
  pub program : List (Option Instruction)
  pub limit : ℕ
  pub fuel : ℕ
  pub start : State
  pub exits : IsExit (block_run_of program limit fuel 0 start).end
  pub memory : Memory
  pub argument : ℕ
  pub short : length memory.block < 2 ^ 32
  pub bytes : AreBytes memory.block
  pub small : argument < 2 ^ 32

-- the registers that pieces change, and the bytes of the stack
pub record Temporaries : Type 0 where
  pub r1 : ℕ
  pub r2 : ℕ
  pub r3 : ℕ
  pub r4 : ℕ
  pub r5 : ℕ
  pub stack : List ℕ
  pub whole : length stack ≡ STACK_BYTES

-- the registers between pieces: R0 is 0, R6 has the block's address, R7 that of scratch, and R8 the argument
abbrev pub registers_of : ℕ → Temporaries → List ℕ
registers_of argument t =
    0 ∷ t.r1 ∷ t.r2 ∷ t.r3 ∷ t.r4 ∷ t.r5 ∷ address_of Block ∷ address_of Scratch ∷ argument ∷ 0 ∷ (address_of Stack + STACK_BYTES) ∷ []

-- a state between pieces
abbrev pub between : Course → ℕ → Temporaries → List ℕ → List ℕ → ℕ → State
between w slot t scratch group frames = record {
  slot = slot;
  registers = registers_of w.argument t;
  memory = record w.memory { scratch = scratch; stack = t.stack };
  group = group;
  frames = frames;
}

-- the block run comes to a state
abbrev pub ComesTo : Course → State → Type 0
ComesTo w s = Reaches w.program w.limit w.fuel w.start s

-- the two registers that take fields
pub data Holder : Type 0 where
  Fourth : Holder
  Fifth : Holder

abbrev pub register_of : Holder → ℕ
register_of Fourth = 4
register_of Fifth = 5

abbrev pub holding : Holder → ℕ → Temporaries → Temporaries
holding Fourth x t = record t { r4 = x }
holding Fifth x t = record t { r5 = x }

module _ (w : Course) (scratch group : List ℕ) (frames : ℕ) where
  -- the block run comes to this slot, between pieces, with these registers
  abbrev pub At : ℕ → Temporaries → Type 0
  At slot t = ComesTo w (between w slot t scratch group frames)

  pub moved : (slot other : ℕ) (t : Temporaries) → slot ≡ other → At slot t → At other t
  moved slot other t same r = subst (λ k. At k t) same r

  pub load_comes : (h : Holder) (size : Size) (slot at : ℕ) (t : Temporaries) → at + size_of size ≤ length w.memory.block
      → instruction_at w.program slot ≡ Some (Load size (register_of h) 6 (pos at)) → At slot t
      → At (slot + 1) (holding h (little_number (size_of size) (drop at w.memory.block)) t)
  load_comes Fourth size slot at t inside stands r =
      subst (λ x. At (slot + 1) (record t { r4 = x })) (loaded_is (record w.memory { scratch = scratch; stack = t.stack }) w.short at (size_of size) inside)
      (goes w.program w.limit w.fuel w.start w.exits (between w slot t scratch group frames) (Load size 4 6 (pos at)) stands refl r)
  load_comes Fifth size slot at t inside stands r =
      subst (λ x. At (slot + 1) (record t { r5 = x })) (loaded_is (record w.memory { scratch = scratch; stack = t.stack }) w.short at (size_of size) inside)
      (goes w.program w.limit w.fuel w.start w.exits (between w slot t scratch group frames) (Load size 5 6 (pos at)) stands refl r)

  swap_comes : (h : Holder) (o : Option SwapSize) (slot x : ℕ) (t : Temporaries) → Stands w.program slot (swap_code (register_of h) o)
      → At slot (holding h x t) → At (slot + slot_count (swap_code (register_of h) o)) (holding h (swapped o x) t)
  swap_comes h None slot x t stands r = let e : slot ≡ slot + 0 = omega arith in moved _ _ (holding h x t) e r
  swap_comes Fourth (Some size) slot x t stands r =
      goes w.program w.limit w.fuel w.start w.exits (between w slot (record t { r4 = x }) scratch group frames) (SwapBytes ToBig size 4) stands.0 refl r
  swap_comes Fifth (Some size) slot x t stands r =
      goes w.program w.limit w.fuel w.start w.exits (between w slot (record t { r5 = x }) scratch group frames) (SwapBytes ToBig size 5) stands.0 refl r

  extension_comes : (h : Holder) (o : Option SignExtension) (slot x : ℕ) (t : Temporaries) → Stands w.program slot (extension_code (register_of h) o)
      → At slot (holding h x t) → At (slot + slot_count (extension_code (register_of h) o)) (holding h (lengthened o x) t)
  extension_comes h None slot x t stands r = let e : slot ≡ slot + 0 = omega arith in moved _ _ (holding h x t) e r
  extension_comes Fourth (Some e) slot x t stands r =
      goes w.program w.limit w.fuel w.start w.exits (between w slot (record t { r4 = x }) scratch group frames) (MoveSigned e 4 4) stands.0 refl r
  extension_comes Fifth (Some e) slot x t stands r =
      goes w.program w.limit w.fuel w.start w.exits (between w slot (record t { r5 = x }) scratch group frames) (MoveSigned e 5 5) stands.0 refl r

  -- ---- fields

  -- the word that a field is loaded as is its value
  word_is : (f : Field) (byte size : ℕ) → IsField size f
      → lengthened (extension_of f.sign f.size) (swapped (swap_of f.order f.size) (little_number (size_of f.size) (drop (byte + f.offset) w.memory.block)))
      ≡ word_in f (take size (drop byte w.memory.block))
  word_is f byte size inside =
      let xs = drop (byte + f.offset) w.memory.block in
      let are = bytes_from (byte + f.offset) w.memory.block w.bytes in
      let same = number_is w.memory.block byte f.offset (size_of f.size) size inside f.order in
      rw (swapped_is f.order f.size xs are, same)
      (extended_is f.sign f.size _ (number_fits f.order (size_of f.size) xs are))

  pub field_comes : (h : Holder) (f : Field) (slot byte size : ℕ) (t : Temporaries) → IsField size f → byte + size ≤ length w.memory.block
      → Stands w.program slot (field_code (register_of h) byte f) → At slot t
      → At (slot + slot_count (field_code (register_of h) byte f)) (holding h (word_in f (take size (drop byte w.memory.block))) t)
  field_comes h f slot byte size t inside fits stands r =
      let n = register_of h in
      let a = swap_code n (swap_of f.order f.size) in
      let b = extension_code n (extension_of f.sign f.size) in
      let loaded = load_comes h f.size slot (byte + f.offset) t (omega (arith, inside)) stands.0 r in
      let turned = swap_comes h (swap_of f.order f.size) (slot + 1) _ t (front_stands w.program (slot + 1) a b stands.1) loaded in
      let whole = extension_comes h (extension_of f.sign f.size) (slot + 1 + slot_count a) _ t (back_stands w.program (slot + 1) a b stands.1) turned in
      let e : slot + 1 + slot_count a + slot_count b ≡ slot + (1 + slot_count (a ++ b)) = omega (arith, slot_count-append a b) in
      subst (λ x. At (slot + (1 + slot_count (a ++ b))) (holding h x t)) (word_is f byte size inside)
      (moved _ _ (holding h (lengthened (extension_of f.sign f.size) (swapped (swap_of f.order f.size) (little_number (size_of f.size) (drop (byte + f.offset) w.memory.block)))) t) e whole)

  -- ---- operands

  -- the registers after an operand's load: R4 is as before, and the source has the operand's value
  pub record Operands (slot : ℕ) (before : Temporaries) (source : Source) (word : ℕ) : Type 0 where
    pub t : Temporaries
    pub reached : At slot t
    pub first : t.r4 ≡ before.r4
    pub second : operand (registers_of w.argument t) source ≡ word

  number_comes : (immediate : Bool) (z : ℤ) (slot : ℕ) (t : Temporaries) → cast_unsigned w64 z < 2 ^ 64
      → Stands w.program slot (if immediate then [] else LoadImmediate 5 (cast_unsigned w64 z) ∷ []) → At slot t
      → Operands (slot + slot_count (if immediate then [] else LoadImmediate 5 (cast_unsigned w64 z) ∷ [])) t
      (if immediate then Immediate z else Register 5) (cast_unsigned w64 z)
  number_comes true z slot t small stands r =
      let e : slot ≡ slot + 0 = omega arith in
      record { t = t; reached = moved _ _ t e r; first = refl; second = mod-eq_of_lt small }
  number_comes false z slot t small stands r =
      record {
        t = record t { r5 = cast_unsigned w64 z % 2 ^ 64 };
        reached = goes w.program w.limit w.fuel w.start w.exits (between w slot t scratch group frames)
            (LoadImmediate 5 (cast_unsigned w64 z)) stands.0 refl r;
        first = refl;
        second = mod-eq_of_lt small;
      }

  pub operand_comes : (o : Operand) (f : Field) (slot byte size : ℕ) (t : Temporaries) → IsOperand size f.sign o → byte + size ≤ length w.memory.block
      → Stands w.program slot (operand_code byte o) → At slot t
      → Operands (slot + slot_count (operand_code byte o)) t (source_of o)
      (cast_unsigned w64 (operand_value w.argument o (take size (drop byte w.memory.block))))
  operand_comes (operands.Number z) f slot byte size t is fits stands r = number_comes (is_immediate z) z slot t (word_fits f.sign z is) stands r
  operand_comes operands.Argument f slot byte size t is fits stands r =
      let e : slot ≡ slot + 0 = omega arith in
      record { t = t; reached = moved _ _ t e r; first = refl; second = refl }
  operand_comes (operands.Field g) f slot byte size t is fits stands r =
      record {
        t = record t { r5 = word_in g (take size (drop byte w.memory.block)) };
        reached = field_comes Fifth g slot byte size t is.0 fits stands r;
        first = refl;
        second = refl;
      }
