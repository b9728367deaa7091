-- The words that fields are loaded as.
use Rattle.std.proofs.Common.{ℕ, ℤ, pos, negsuc, ◌<◌, ◌^◌, ◌%◌, ◌≡◌, List, take, drop, Option, Some, None, refl, sym, ap, subst, arith, take-append-drop}
use Rattle.std.proofs.Common.{SFits}
use Rattle.std.proofs.Math.Nat.{mod-eq_of_lt}
use Rattle.std.proofs.lemmas.Bool.Decides.{nat_tests}
use Rattle.std.proofs.lemmas.Int.{ints}
use Rattle.std.specs.Int.{w8, w16, w32, w64, cast_signed, cast_unsigned}
use Rattle.byteorder.specs.Endian.{little_number, twos_complement}
use Rattle.byteorder.specs.Numbers.{big_from-lt, little_from-lt}
use Rattle.common_definitions.proofs.Proved.{bytes_from, front_fit}
use Rattle.common_definitions.specs.Bytes.{AreBytes, field}
use Rattle.instruction_set.specs.Instruction.{size_of}
use Rattle.instruction_set.specs.declared.operation.SignExtension.{SignExtension}
use Rattle.instruction_set.specs.declared.operation.Size.{Size}
use Rattle.instruction_set.specs.declared.operation.Size.TheVariants.{Byte, HalfWord, Word, DoubleWord}
use Rattle.instruction_set.specs.declared.operation.SwapSize.{SwapSize}
use Rattle.program_meaning.specs.Word.{extended, reversed}
use Rattle.record_questions.specs.declared.question.Sign.{Sign}
use Rattle.record_questions.specs.declared.question.Sign.TheVariants.{Unsigned, Signed}
use Rattle.record_questions.specs.declared.question.ByteOrder.{ByteOrder}
use Rattle.record_questions.specs.declared.question.ByteOrder.TheVariants.{Little, Big}
use Rattle.record_questions.specs.declared.question.Field.{Field}
use Rattle.record_questions.specs.Asked.{IsNumber}
use Rattle.record_questions.specs.Code.{extension_of, swap_of}
use Rattle.record_questions.specs.Question.{number_in, number_of, signed_by, value_of}

-- a word after a swap of its bytes, or after an extension, if there is one
abbrev pub swapped : Option SwapSize → ℕ → ℕ
swapped None x = x
swapped (Some size) x = reversed size x

abbrev pub lengthened : Option SignExtension → ℕ → ℕ
lengthened None x = x
lengthened (Some extension) x = extended extension x

pub swapped_is : (order : ByteOrder) (size : Size) (xs : List ℕ) → AreBytes xs
    → swapped (swap_of order size) (little_number (size_of size) xs) ≡ number_of order (size_of size) xs
swapped_is Little size xs are = refl
swapped_is Big Byte xs are = omega arith
swapped_is Big HalfWord xs are =
    let a = are 0 in let b = are 1 in
    omega (arith, a, b)
swapped_is Big Word xs are =
    let a = are 0 in let b = are 1 in let c = are 2 in let d = are 3 in
    omega (arith, a, b, c, d)
swapped_is Big DoubleWord xs are =
    let a = are 0 in let b = are 1 in let c = are 2 in let d = are 3 in
    let e = are 4 in let f = are 5 in let g = are 6 in let h = are 7 in
    omega (arith, a, b, c, d, e, f, g, h)

-- ---- two's complement

signed8 : (x : ℕ) → x < 2 ^ 8 → cast_signed w8 x ≡ twos_complement 1 x
signed8 x small = grind (arith, nat_tests, ints)

signed16 : (x : ℕ) → x < 2 ^ 16 → cast_signed w16 x ≡ twos_complement 2 x
signed16 x small = grind (arith, nat_tests, ints)

signed32 : (x : ℕ) → x < 2 ^ 32 → cast_signed w32 x ≡ twos_complement 4 x
signed32 x small = grind (arith, nat_tests, ints)

signed64 : (x : ℕ) → x < 2 ^ 64 → cast_signed w64 x ≡ twos_complement 8 x
signed64 x small = grind (arith, nat_tests, ints)

unsigned64 : (x : ℕ) → x < 2 ^ 64 → cast_unsigned w64 (twos_complement 8 x) ≡ x
unsigned64 x small = grind (arith, nat_tests, ints)

pub extended_is : (sign : Sign) (size : Size) (x : ℕ) → x < 256 ^ size_of size
    → lengthened (extension_of sign size) x ≡ cast_unsigned w64 (signed_by sign (size_of size) x)
extended_is Unsigned size x small = refl
extended_is Signed Byte x small =
    let e : x % 2 ^ 8 ≡ x = mod-eq_of_lt (omega arith) in
    rw e (ap (cast_unsigned w64) (signed8 x (omega arith)))
extended_is Signed HalfWord x small =
    let e : x % 2 ^ 16 ≡ x = mod-eq_of_lt (omega arith) in
    rw e (ap (cast_unsigned w64) (signed16 x (omega arith)))
extended_is Signed Word x small =
    let e : x % 2 ^ 32 ≡ x = mod-eq_of_lt (omega arith) in
    rw e (ap (cast_unsigned w64) (signed32 x (omega arith)))
extended_is Signed DoubleWord x small = sym (unsigned64 x (omega arith))

-- ---- values are numbers of 64 bits

pub number_fits : (order : ByteOrder) (n : ℕ) (xs : List ℕ) → AreBytes xs → number_of order n xs < 256 ^ n
number_fits Little n xs are = little_from-lt 0 n xs are
number_fits Big n xs are = big_from-lt 0 n xs are

pub signed_is_number : (sign : Sign) (size : Size) (x : ℕ) → x < 256 ^ size_of size → IsNumber sign (signed_by sign (size_of size) x)
signed_is_number Unsigned Byte x small = (omega (arith, ints), omega (arith, ints))
signed_is_number Unsigned HalfWord x small = (omega (arith, ints), omega (arith, ints))
signed_is_number Unsigned Word x small = (omega (arith, ints), omega (arith, ints))
signed_is_number Unsigned DoubleWord x small = (omega (arith, ints), omega (arith, ints))
signed_is_number Signed Byte x small = (grind (arith, nat_tests, ints), grind (arith, nat_tests, ints))
signed_is_number Signed HalfWord x small = (grind (arith, nat_tests, ints), grind (arith, nat_tests, ints))
signed_is_number Signed Word x small = (grind (arith, nat_tests, ints), grind (arith, nat_tests, ints))
signed_is_number Signed DoubleWord x small = (grind (arith, nat_tests, ints), grind (arith, nat_tests, ints))

pub value_is_number : (f : Field) (r : List ℕ) → AreBytes r → IsNumber f.sign (value_of f r)
value_is_number f r are =
    signed_is_number f.sign f.size (number_in f r) (number_fits f.order (size_of f.size) (drop f.offset r) (bytes_from f.offset r are))

pub argument_is_number : (sign : Sign) (n : ℕ) → n < 2 ^ 32 → IsNumber sign (pos n)
argument_is_number Unsigned n small = (omega (arith, ints), omega (arith, ints))
argument_is_number Signed n small = (omega (arith, ints), omega (arith, ints))

pub fits_signed : (z : ℤ) → IsNumber Signed z → SFits w64 z
fits_signed (pos n) is = let a = is.1 in record { sfits = omega (arith, ints, a) }
fits_signed (negsuc n) is = let a = is.0 in record { sfits = omega (arith, ints, a) }

pub word_fits : (sign : Sign) (z : ℤ) → IsNumber sign z → cast_unsigned w64 z < 2 ^ 64
word_fits Unsigned (pos n) is = let a = is.1 in omega (arith, ints, a)
word_fits Unsigned (negsuc n) is = let a = is.0 in absurd (omega (arith, ints, a))
word_fits Signed (pos n) is = let a = is.1 in omega (arith, ints, a)
word_fits Signed (negsuc n) is = let a = is.0 in omega (arith, ints, a)

-- ---- bytes of records

sized : (size : Size) (x : ℕ) → x < 256 ^ size_of size → x < 2 ^ 64
sized Byte x small = omega arith
sized HalfWord x small = omega arith
sized Word x small = omega arith
sized DoubleWord x small = omega arith

pub number_in_fits : (f : Field) (r : List ℕ) → AreBytes r → number_in f r < 2 ^ 64
number_in_fits f r are = sized f.size (number_in f r) (number_fits f.order (size_of f.size) (drop f.offset r) (bytes_from f.offset r are))

pub record_bytes : (size byte : ℕ) (bytes : List ℕ) → AreBytes bytes → AreBytes (take size (drop byte bytes))
record_bytes size byte bytes are =
    front_fit (take size (drop byte bytes)) (drop size (drop byte bytes))
    (subst AreBytes (sym (take-append-drop size (drop byte bytes))) (bytes_from byte bytes are))

-- a field of four bytes of the context
pub word_field_fits : (bytes : List ℕ) (at : ℕ) → AreBytes bytes → field bytes at 4 < 2 ^ 32
word_field_fits bytes at are =
    let h = little_from-lt 0 4 (drop at bytes) (bytes_from at bytes are) in
    omega (arith, h)
