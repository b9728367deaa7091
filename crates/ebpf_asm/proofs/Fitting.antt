-- What a line is read as fits the fields of an instruction.
use Rattle.std.proofs.Common.{◌≡◌, ℕ, ℤ, pos, negsuc, ◌-ℤ◌, ◌+◌, ◌-◌, ◌%◌, ◌<◌, ◌≤◌, ◌^◌, Bool, true, false, ◌&&◌, cond, eqb, leb, List, length, get_or, drop, map, Option, Some, None, Result, Ok, Err, refl, sym, ap, ◌∙◌, arith}
use Rattle.std.specs.Prelude.{FitsSigned, IfOk, int_le, ok_or, codes}
use Rattle.std.specs.Result.{OkIff, result_ok}
use Rattle.std.specs.Int.{w16, w32, w64, cast_signed, cast_unsigned}
use Rattle.std.specs.List.{AllByRecursion, before_first, position_or_len}
use Rattle.std.specs.Char.{is_ascii_digit}
use Rattle.std.specs.Str.{bytes_eq}
use Rattle.std.proofs.lemmas.Bool.{and_parts, cond_both, leb-true}
use Rattle.std.proofs.lemmas.Int.{ints}
use Rattle.instruction_set.specs.declared.instruction.Instruction.{Instruction}
use Rattle.instruction_set.specs.declared.instruction.Instruction.TheVariants as instructions
use Rattle.instruction_set.specs.declared.instruction.Source.{Source}
use Rattle.instruction_set.specs.declared.instruction.Source.TheVariants as sources
use Rattle.instruction_set.specs.declared.operation.Operation.{Operation}
use Rattle.instruction_set.specs.declared.operation.Operation.TheVariants.{SignedDivide, SignedModulo}
use Rattle.instruction_set.specs.declared.operation.SignExtension.{SignExtension}
use Rattle.instruction_set.specs.declared.operation.SignExtension.TheVariants.{Bits8To32, Bits16To32, Bits8To64, Bits16To64, Bits32To64}
use Rattle.instruction_set.specs.declared.operation.SwapSize.{SwapSize}
use Rattle.instruction_set.specs.declared.operation.SwapSize.TheVariants as kept
use Rattle.instruction_set.specs.Program.{slots_taken}
use Rattle.instruction_set.specs.Spelling.{Fits, source_register, source_immediate, operation_offset, extension_offset, kept_bits}
use Rattle.ebpf_asm.specs.declared.mnemonic.Mnemonic.{Mnemonic}
use Rattle.ebpf_asm.specs.declared.mnemonic.Mnemonic.TheVariants.{LoadImmediate, Load, LoadSigned, StoreImmediate, StoreRegister, Arithmetic, Negate, MoveSigned, SwapBytes, Jump, JumpLong, Branch, Call, Exit}
use Rattle.ebpf_asm.specs.declared.fault.FaultKind.{FaultKind}
use Rattle.ebpf_asm.specs.declared.fault.FaultKind.TheVariants.{UnknownMnemonic, Operand, OutOfRange}
use Rattle.common_definitions.specs.Readings.{◌>>=◌}
use Rattle.ebpf_asm.specs.Fault.{read_both}
use Rattle.ebpf_asm.specs.Mnemonic.{mnemonic_named}
use Rattle.ebpf_asm.specs.Operand.{register_of, literal_of, in_range, short_of, long_of, immediate_told, wide_of, source_told, inside_brackets, offset_of, memory_told, distance_told, signed_of, is_label_name, is_sign_byte}
use Rattle.ebpf_asm.specs.Statement.{Statement, statement_of, statement_with, operands_of, one_of, two_of, three_of, none_of}
use Rattle.ebpf_asm.specs.Line.{Line, line_of}
use Rattle.ebpf_asm.specs.Assembly.{LabelMap, fitting, jump_by, jump_to, resolved}
use Rattle.text_lines.specs.Cut.{is_blank_byte}
use Rattle.ebpf_decode.proofs.Proved.{fits-32}
use Rattle.ebpf_asm.proofs.EachLine.{LineHas, lines_have}
use Rattle.ebpf_asm.proofs.OperandsReadBack.{IsSource, long_again, short_again}

-- ---- readings that follow one another

then_fits : {A B : Type 0} (m : Result A FaultKind) (f : A → Result B FaultKind) (P : A → Type 0) (Q : B → Type 0)
    → IfOk m P → ((x : A) → P x → IfOk (f x) Q) → IfOk (m >>= f) Q
then_fits (Ok x) f P Q h next = next x h
then_fits (Err fault) f P Q h next = tt

-- where nothing is known of the first reading
pub after : {A B : Type 0} (m : Result A FaultKind) (f : A → Result B FaultKind) (Q : B → Type 0) → ((x : A) → IfOk (f x) Q) → IfOk (m >>= f) Q
after (Ok x) f Q next = next x
after (Err fault) f Q next = tt

both_fit : {A B : Type 0} (a : Result A FaultKind) (b : Result B FaultKind) (P : A → Type 0) (Q : B → Type 0)
    → IfOk a P → IfOk b Q → IfOk (read_both a b) (λ p. P p.0 × Q p.1)
both_fit (Ok a) (Ok b) P Q p q = (p, q)
both_fit (Ok a) (Err fault) P Q p q = tt
both_fit (Err OutOfRange) (Ok b) P Q p q = tt
both_fit (Err OutOfRange) (Err fault) P Q p q = tt
both_fit (Err fault) b P Q p q = tt

-- ---- numbers

-- what holds of all numbers of a range holds of what is in it
in_range_fits : (a b : ℕ) (P : ℤ → Type 0) → ((n : ℕ) → n ≤ b → P (pos n)) → ((n : ℕ) → n ≤ a → P (negsuc n)) → (z : ℤ) → IfOk (in_range (negsuc a) (pos b) z) P
in_range_fits a b P above below (pos n) =
    cond_both (leb n b) (Ok (pos n)) (Err OutOfRange) (λ r. IfOk r P) (λ is. above n (leb-true n b is)) (λ _. tt)
in_range_fits a b P above below (negsuc n) =
    cond_both (leb n a && true) (Ok (negsuc n)) (Err OutOfRange) (λ r. IfOk r P) (λ is. below n (leb-true n a (and_parts (leb n a) true is).0)) (λ _. tt)

short_fits : (z : ℤ) → IfOk (short_of z) (FitsSigned w16)
short_fits = in_range_fits 32767 32767 (FitsSigned w16) (λ n low. omega (arith, ints)) (λ n low. omega (arith, ints))

long_fits : (z : ℤ) → IfOk (long_of z) (FitsSigned w32)
long_fits = in_range_fits 2147483647 2147483647 (FitsSigned w32) (λ n low. omega (arith, ints)) (λ n low. omega (arith, ints))

-- a number that a field doesn't take is out of range
not_in_range : (least greatest z : ℤ) (Fit : ℤ → Type 0) → IfOk (in_range least greatest z) Fit → ¬ Fit z → Err OutOfRange ≡ in_range least greatest z
not_in_range least greatest z Fit fits none =
    cond_both (int_le least z && int_le z greatest) (Ok z) (Err OutOfRange) (λ r. IfOk r Fit → Err OutOfRange ≡ r) (λ _ fit. absurd (none fit)) (λ _ _. refl) fits

-- what the library converts a number to is the number, where a field takes it
pub short_converted : {E : Type 0} (z : ℤ) (converted : Result ℤ E) → OkIff converted (FitsSigned w16 z) z → ok_or (result_ok converted) OutOfRange ≡ short_of z
short_converted z (Ok x) is = ap (λ (n : ℤ). Ok n) is.1 ∙ sym (short_again z is.0)
short_converted z (Err e) none = not_in_range (negsuc 32767) (pos 32767) z (FitsSigned w16) (short_fits z) none

pub long_converted : {E : Type 0} (z : ℤ) (converted : Result ℤ E) → OkIff converted (FitsSigned w32 z) z → ok_or (result_ok converted) OutOfRange ≡ long_of z
long_converted z (Ok x) is = ap (λ (n : ℤ). Ok n) is.1 ∙ sym (long_again z is.0)
long_converted z (Err e) none = not_in_range (negsuc 2147483647) (pos 2147483647) z (FitsSigned w32) (long_fits z) none

wide_in_range : (z : ℤ) → IfOk (in_range (negsuc 9223372036854775807) (pos 18446744073709551615) z) (λ x. cast_unsigned w64 x < 2 ^ 64)
wide_in_range = in_range_fits 9223372036854775807 18446744073709551615 (λ x. cast_unsigned w64 x < 2 ^ 64) (λ n low. omega (arith, ints)) (λ n low. omega (arith, ints))

word_in_range : (z : ℤ) → IfOk (in_range (negsuc 2147483647) (pos 4294967295) z) (λ x. cast_unsigned w32 x < 2 ^ 32)
word_in_range = in_range_fits 2147483647 4294967295 (λ x. cast_unsigned w32 x < 2 ^ 32) (λ n low. omega (arith, ints)) (λ n low. omega (arith, ints))

immediate_fits : (text : List ℕ) → IfOk (immediate_told text) (FitsSigned w32)
unfolding immediate_told
immediate_fits text =
    after (literal_of text) _ _ (λ number.
    then_fits (in_range (negsuc 2147483647) (pos 4294967295) number) _ (λ x. cast_unsigned w32 x < 2 ^ 32) (FitsSigned w32) (word_in_range number) (λ x small.
    fits-32 (cast_unsigned w32 x) small))

wide_fits : (text : List ℕ) → IfOk (wide_of text) (λ value. value < 2 ^ 64)
unfolding wide_of
wide_fits text =
    after (literal_of text) _ _ (λ number.
    then_fits (in_range (negsuc 9223372036854775807) (pos 18446744073709551615) number) _ (λ x. cast_unsigned w64 x < 2 ^ 64) (λ value. value < 2 ^ 64) (wide_in_range number) (λ x small. small))

-- ---- operands

register_fits : (text : List ℕ) → IfOk (register_of text) (λ n. n < 11)
register_fits text = by_tests (bytes_eq text (codes "r10")) (eqb (length text) 2) (eqb (get_or text 0 0) 114) (is_ascii_digit (get_or text 1 0)) (get_or text 1 0) refl
  where
    by_tests : (ten two first digit : Bool) (d : ℕ) → is_ascii_digit d ≡ digit
        → IfOk (cond ten (Ok 10) (cond (two && (first && digit)) (Ok (d - 48)) (Err Operand))) (λ n. n < 11)
    by_tests true two first digit d is = omega arith
    by_tests false true true true d is =
        let range = and_parts (leb 48 d) (leb d 57) is in
        let high = leb-true d 57 range.1 in
        omega (arith, high)
    by_tests false true true false d is = tt
    by_tests false true false digit d is = tt
    by_tests false false first digit d is = tt

source_fits : (text : List ℕ) → IfOk (source_told text) IsSource
unfolding source_told
source_fits text = by_first (eqb (get_or text 0 0) 114)
  where
    by_first : (b : Bool) → IfOk (cond b (register_of text >>= λ register. Ok (sources.Register register)) (immediate_told text >>= λ value. Ok (sources.Immediate value))) IsSource
    by_first true = then_fits (register_of text) _ (λ n. n < 11) IsSource (register_fits text) (λ n h. h)
    by_first false = then_fits (immediate_told text) _ (FitsSigned w32) IsSource (immediate_fits text) (λ z h. h)

offset_fits : (text : List ℕ) → IfOk (offset_of text) (FitsSigned w16)
unfolding offset_of
offset_fits text = by_length (eqb (length text) 0)
  where
    by_length : (b : Bool) → IfOk (cond b (Ok (pos 0)) (signed_of text >>= short_of)) (FitsSigned w16)
    by_length true = omega arith
    by_length false = after (signed_of text) short_of _ short_fits

-- a memory operand's register and offset fit
abbrev IsPlace : ℕ × ℤ → Type 0
IsPlace place = (place.0 < 11) × FitsSigned w16 place.1

memory_fits : (text : List ℕ) → IfOk (memory_told text) IsPlace
unfolding memory_told
memory_fits text =
    after (inside_brackets text) _ _ (λ inside.
    both_fit (register_of (before_first is_sign_byte inside)) (offset_of (drop (position_or_len is_sign_byte inside) inside)) (λ n. n < 11) (FitsSigned w16)
    (register_fits (before_first is_sign_byte inside)) (offset_fits (drop (position_or_len is_sign_byte inside) inside)))

distance_fits : (in_field : ℤ → Result ℤ FaultKind) (P : ℤ → Type 0) → P (pos 0) → ((z : ℤ) → IfOk (in_field z) P) → (text : List ℕ) → IfOk (distance_told in_field text) P
unfolding distance_told
distance_fits in_field P none fit text = by_tests (is_sign_byte (get_or text 0 0)) (is_label_name text)
  where
    by_tests : (sign name : Bool) → IfOk (cond sign (signed_of text >>= in_field) (cond name (Ok (pos 0)) (Err Operand))) P
    by_tests true name = after (signed_of text) in_field _ fit
    by_tests false true = none
    by_tests false false = tt

-- ---- statements

abbrev StatementFits : Statement → Type 0
StatementFits s = Fits s.0

no_register : 0 < 11
no_register = omega arith

no_offset : FitsSigned w16 (pos 0)
no_offset = omega arith

no_immediate : FitsSigned w32 (pos 0)
no_immediate = omega arith

low_half : (value : ℕ) → FitsSigned w32 (cast_signed w32 (value % 2 ^ 32))
low_half value = fits-32 (value % 2 ^ 32) (omega arith)

source_low : (source : Source) → IsSource source → source_register source < 11
source_low (sources.Immediate z) h = omega arith
source_low (sources.Register n) h = h

source_number : (source : Source) → IsSource source → FitsSigned w32 (source_immediate source)
source_number (sources.Immediate z) h = h
source_number (sources.Register n) h = no_immediate

operation_fits : (operation : Operation) → FitsSigned w16 (operation_offset operation)
operation_fits SignedDivide = omega arith
operation_fits SignedModulo = omega arith
operation_fits operation = no_offset

extension_fits : (extension : SignExtension) → FitsSigned w16 (extension_offset extension)
extension_fits Bits8To32 = omega arith
extension_fits Bits16To32 = omega arith
extension_fits Bits8To64 = omega arith
extension_fits Bits16To64 = omega arith
extension_fits Bits32To64 = omega arith

kept_fits : (size : SwapSize) → FitsSigned w32 (kept_bits size)
kept_fits kept.Bits16 = omega arith
kept_fits kept.Bits32 = omega arith
kept_fits kept.Bits64 = omega arith

statement_with_fits : (mnemonic : Mnemonic) (texts : List (List ℕ)) → IfOk (statement_with mnemonic texts) StatementFits
unfolding statement_with
statement_with_fits LoadImmediate texts =
    after (two_of texts) _ _ (λ t.
    then_fits (read_both (register_of t.0) (wide_of t.1)) _ (λ x. (x.0 < 11) × (x.1 < 2 ^ 64)) StatementFits
    (both_fit (register_of t.0) (wide_of t.1) (λ n. n < 11) (λ v. v < 2 ^ 64) (register_fits t.0) (wide_fits t.1))
    (λ x h. record { dst = h.0; src = no_register; offset = no_offset; immediate = low_half x.1; value = h.1 }))
statement_with_fits (Load size) texts =
    after (two_of texts) _ _ (λ t.
    then_fits (read_both (register_of t.0) (memory_told t.1)) _ (λ x. (x.0 < 11) × IsPlace x.1) StatementFits
    (both_fit (register_of t.0) (memory_told t.1) (λ n. n < 11) IsPlace (register_fits t.0) (memory_fits t.1))
    (λ x h. record { dst = h.0; src = h.1.0; offset = h.1.1; immediate = no_immediate; value = tt }))
statement_with_fits (LoadSigned size) texts =
    after (two_of texts) _ _ (λ t.
    then_fits (read_both (register_of t.0) (memory_told t.1)) _ (λ x. (x.0 < 11) × IsPlace x.1) StatementFits
    (both_fit (register_of t.0) (memory_told t.1) (λ n. n < 11) IsPlace (register_fits t.0) (memory_fits t.1))
    (λ x h. record { dst = h.0; src = h.1.0; offset = h.1.1; immediate = no_immediate; value = tt }))
statement_with_fits (StoreImmediate size) texts =
    after (two_of texts) _ _ (λ t.
    then_fits (read_both (memory_told t.0) (immediate_told t.1)) _ (λ x. IsPlace x.0 × FitsSigned w32 x.1) StatementFits
    (both_fit (memory_told t.0) (immediate_told t.1) IsPlace (FitsSigned w32) (memory_fits t.0) (immediate_fits t.1))
    (λ x h. record { dst = h.0.0; src = no_register; offset = h.0.1; immediate = h.1; value = tt }))
statement_with_fits (StoreRegister size) texts =
    after (two_of texts) _ _ (λ t.
    then_fits (read_both (memory_told t.0) (register_of t.1)) _ (λ x. IsPlace x.0 × (x.1 < 11)) StatementFits
    (both_fit (memory_told t.0) (register_of t.1) IsPlace (λ n. n < 11) (memory_fits t.0) (register_fits t.1))
    (λ x h. record { dst = h.0.0; src = h.1; offset = h.0.1; immediate = no_immediate; value = tt }))
statement_with_fits (Arithmetic width operation) texts =
    after (two_of texts) _ _ (λ t.
    then_fits (read_both (register_of t.0) (source_told t.1)) _ (λ x. (x.0 < 11) × IsSource x.1) StatementFits
    (both_fit (register_of t.0) (source_told t.1) (λ n. n < 11) IsSource (register_fits t.0) (source_fits t.1))
    (λ x h. record { dst = h.0; src = source_low x.1 h.1; offset = operation_fits operation; immediate = source_number x.1 h.1; value = tt }))
statement_with_fits (Negate width) texts =
    after (one_of texts) _ _ (λ t.
    then_fits (register_of t) _ (λ n. n < 11) StatementFits (register_fits t)
    (λ x h. record { dst = h; src = no_register; offset = no_offset; immediate = no_immediate; value = tt }))
statement_with_fits (MoveSigned extension) texts =
    after (two_of texts) _ _ (λ t.
    then_fits (read_both (register_of t.0) (register_of t.1)) _ (λ x. (x.0 < 11) × (x.1 < 11)) StatementFits
    (both_fit (register_of t.0) (register_of t.1) (λ n. n < 11) (λ n. n < 11) (register_fits t.0) (register_fits t.1))
    (λ x h. record { dst = h.0; src = h.1; offset = extension_fits extension; immediate = no_immediate; value = tt }))
statement_with_fits (SwapBytes swap size) texts =
    after (one_of texts) _ _ (λ t.
    then_fits (register_of t) _ (λ n. n < 11) StatementFits (register_fits t)
    (λ x h. record { dst = h; src = no_register; offset = no_offset; immediate = kept_fits size; value = tt }))
statement_with_fits Jump texts =
    after (one_of texts) _ _ (λ t.
    then_fits (distance_told short_of t) _ (FitsSigned w16) StatementFits (distance_fits short_of (FitsSigned w16) no_offset short_fits t)
    (λ z h. record { dst = no_register; src = no_register; offset = h; immediate = no_immediate; value = tt }))
statement_with_fits JumpLong texts =
    after (one_of texts) _ _ (λ t.
    then_fits (distance_told long_of t) _ (FitsSigned w32) StatementFits (distance_fits long_of (FitsSigned w32) no_immediate long_fits t)
    (λ z h. record { dst = no_register; src = no_register; offset = no_offset; immediate = h; value = tt }))
statement_with_fits (Branch width relation) texts =
    after (three_of texts) _ _ (λ t.
    then_fits (read_both (read_both (register_of t.0) (source_told t.1)) (distance_told short_of t.2)) _ (λ x. ((x.0.0 < 11) × IsSource x.0.1) × FitsSigned w16 x.1) StatementFits
    (both_fit (read_both (register_of t.0) (source_told t.1)) (distance_told short_of t.2) (λ y. (y.0 < 11) × IsSource y.1) (FitsSigned w16)
    (both_fit (register_of t.0) (source_told t.1) (λ n. n < 11) IsSource (register_fits t.0) (source_fits t.1))
    (distance_fits short_of (FitsSigned w16) no_offset short_fits t.2))
    (λ x h. record { dst = h.0.0; src = source_low x.0.1 h.0.1; offset = h.1; immediate = source_number x.0.1 h.0.1; value = tt }))
statement_with_fits Call texts =
    after (one_of texts) _ _ (λ t.
    then_fits (immediate_told t) _ (FitsSigned w32) StatementFits (immediate_fits t)
    (λ z h. record { dst = no_register; src = no_register; offset = no_offset; immediate = h; value = tt }))
statement_with_fits Exit texts =
    after (none_of texts) _ _
    (λ none. record { dst = no_register; src = no_register; offset = no_offset; immediate = no_immediate; value = tt })

statement_fits : (text : List ℕ) → IfOk (statement_of text) StatementFits
unfolding statement_of
statement_fits text =
    let named = ok_or (mnemonic_named (before_first is_blank_byte text)) UnknownMnemonic in
    after named _ _ (λ mnemonic.
    statement_with_fits mnemonic (operands_of (drop (position_or_len is_blank_byte text) text)))

-- ---- lines

-- an instruction, if there is one, fits
abbrev pub LineFits : Line → Type 0
LineFits line = LineHas StatementFits line

pub lines_fit : (all : List (List ℕ)) → AllByRecursion LineFits (map line_of all)
lines_fit all = lines_have StatementFits statement_fits all

-- ---- jumps

-- an instruction that fits and takes as many slots as another
abbrev pub Fills : Instruction → Instruction → Type 0
Fills instruction made = Fits made × (slots_taken made ≡ slots_taken instruction)

fitting_fits : (jump : ℤ → Instruction) (distance : Result ℤ FaultKind) (P : ℤ → Type 0) (Q : Instruction → Type 0) → IfOk distance P → ((z : ℤ) → P z → Q (jump z)) → IfOk (fitting jump distance) Q
fitting_fits jump (Ok z) P Q h made = made z h
fitting_fits jump (Err fault) P Q h made = tt

jump_by_fits : (instruction : Instruction) (distance : ℤ) → Fits instruction → IfOk (jump_by instruction distance) (Fills instruction)
jump_by_fits (instructions.Jump unknown) distance fits =
    fitting_fits instructions.Jump (short_of distance) (FitsSigned w16) (Fills (instructions.Jump unknown)) (short_fits distance)
    (λ z h. (record { dst = fits.dst; src = fits.src; offset = h; immediate = fits.immediate; value = tt }, refl))
jump_by_fits (instructions.JumpLong unknown) distance fits =
    fitting_fits instructions.JumpLong (long_of distance) (FitsSigned w32) (Fills (instructions.JumpLong unknown)) (long_fits distance)
    (λ z h. (record { dst = fits.dst; src = fits.src; offset = fits.offset; immediate = h; value = tt }, refl))
jump_by_fits (instructions.Branch width relation dst source unknown) distance fits =
    fitting_fits (instructions.Branch width relation dst source) (short_of distance) (FitsSigned w16) (Fills (instructions.Branch width relation dst source unknown)) (short_fits distance)
    (λ z h. (record { dst = fits.dst; src = fits.src; offset = h; immediate = fits.immediate; value = tt }, refl))
jump_by_fits instruction distance fits = (fits, refl)

pub resolved_fits : (labels : LabelMap) (slot : ℕ) (instruction : Instruction) (target : Option (List ℕ)) → Fits instruction → IfOk (resolved labels slot instruction target) (Fills instruction)
resolved_fits labels slot instruction None fits = (fits, refl)
resolved_fits labels slot instruction (Some name) fits = by_label (labels name)
  where
    by_label : (to : Option ℕ) → IfOk (jump_to instruction slot to) (Fills instruction)
    by_label None = tt
    by_label (Some to) = jump_by_fits instruction (pos to -ℤ pos (slot + 1)) fits
