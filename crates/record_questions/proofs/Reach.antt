-- What a record has is within reach of an instruction's offset.
use Rattle.std.proofs.Common.{ℕ, ◌+◌, ◌-◌, ◌*◌, ◌<◌, ◌≤◌, ◌^◌, ◌≡◌, List, [], ◌∷◌, length, Option, Some, None, refl, arith, lit≤}
use Rattle.std.proofs.lemmas.Nat.{mul-le}
use Rattle.byteorder.specs.Endian.{little_number}
use Rattle.common_definitions.specs.Bytes.{AreBytes}
use Rattle.instruction_set.specs.Instruction.{size_of}
use Rattle.instruction_set.specs.declared.operation.Size.{Size}
use Rattle.instruction_set.specs.declared.operation.Size.TheVariants.{Byte, HalfWord, Word, DoubleWord}
use Rattle.program_interface.specs.declared.area.TheConstants.{SCRATCH_BYTES}
use Rattle.program_interface.specs.declared.block_size.TheConstants.{LARGEST_BLOCK}
use Rattle.record_questions.proofs.Numbers.{number_fits, signed_is_number}
use Rattle.record_questions.specs.declared.question.Sign.{Sign}
use Rattle.record_questions.specs.declared.question.Sign.TheVariants.{Unsigned}
use Rattle.record_questions.specs.declared.question.ByteOrder.TheVariants.{Little}
use Rattle.record_questions.specs.declared.question.Field.{Field}
use Rattle.record_questions.specs.declared.question.Operand.{Operand}
use Rattle.record_questions.specs.declared.question.Operand.TheVariants as operands
use Rattle.record_questions.specs.declared.question.Predicate.{Predicate}
use Rattle.record_questions.specs.declared.question.Predicate.TheVariants.{Compare, Bytes, And', Or', Not'}
use Rattle.record_questions.specs.declared.question.Tally.{Tally}
use Rattle.record_questions.specs.declared.question.Tally.TheVariants.{Count, Sum, Least, Greatest}
use Rattle.record_questions.specs.declared.question.Grouping.{Grouping}
use Rattle.record_questions.specs.declared.question.Question.{Question}
use Rattle.record_questions.specs.declared.question.ByteRange.{ByteRange}
use Rattle.record_questions.specs.Asked.{AreRanges, AreTallies, IsField, IsGrouping, IsOperand, IsPredicate, IsQuestion, IsRange, IsTally}
use Rattle.record_questions.specs.Code.{chunk_operand}
use Rattle.record_questions.specs.Tallies.{groups}

some_bytes : (s : Size) → 1 ≤ size_of s
some_bytes Byte = lit≤ tt
some_bytes HalfWord = lit≤ tt
some_bytes Word = lit≤ tt
some_bytes DoubleWord = lit≤ tt

pub field_near : (byte : ℕ) (f : Field) → IsField (2 ^ 15 - byte) f → byte + f.offset < 2 ^ 15
field_near byte f is = omega (arith, is, some_bytes f.size)

-- a chunk of bytes is an operand
pub chunk_near : (n : ℕ) (s : Size) (xs : List ℕ) → AreBytes xs → IsOperand n Unsigned (chunk_operand s xs)
chunk_near n s xs are = signed_is_number Unsigned s (little_number (size_of s) xs) (number_fits Little (size_of s) xs are)

-- ---- what lies in a record lies in a longer one

field_in : (f : Field) (size n : ℕ) → size ≤ n → IsField size f → IsField n f
field_in f size n le is = omega (arith, is, le)

operand_in : (o : Operand) (sign : Sign) (size n : ℕ) → size ≤ n → IsOperand size sign o → IsOperand n sign o
operand_in (operands.Number z) sign size n le is = is
operand_in operands.Argument sign size n le is = is
operand_in (operands.Field f) sign size n le is = (field_in f size n le is.0, is.1)

predicate_in : (p : Predicate) (size n : ℕ) → size ≤ n → IsPredicate size p → IsPredicate n p
predicate_in (Compare f comparison o) size n le is = (field_in f size n le is.0, operand_in o f.sign size n le is.1)
predicate_in (Bytes offset bytes) size n le is = let inside = is.1 in (is.0, omega (arith, inside, le), is.2)
predicate_in (And' x p y q) size n le is = (predicate_in p size n le is.0, predicate_in q size n le is.1)
predicate_in (Or' x p y q) size n le is = (predicate_in p size n le is.0, predicate_in q size n le is.1)
predicate_in (Not' x p) size n le is = predicate_in p size n le is

tally_in : (t : Tally) (size n : ℕ) → size ≤ n → IsTally size t → IsTally n t
tally_in Count size n le is = is
tally_in (Sum f) size n le is = field_in f size n le is
tally_in (Least f) size n le is = field_in f size n le is
tally_in (Greatest f) size n le is = field_in f size n le is

tallies_in : (ts : List Tally) (size n : ℕ) → size ≤ n → AreTallies size ts → AreTallies n ts
tallies_in [] size n le is = is
tallies_in (t ∷ ts) size n le is = (tally_in t size n le is.0, tallies_in ts size n le is.1)

range_in : (range : ByteRange) (size n : ℕ) → size ≤ n → IsRange size range → IsRange n range
range_in range size n le is = (is.0, omega (arith, is.1, le))

ranges_in : (ranges : List ByteRange) (size n : ℕ) → size ≤ n → AreRanges size ranges → AreRanges n ranges
ranges_in [] size n le are = are
ranges_in (range ∷ ranges) size n le are = (range_in range size n le are.0, ranges_in ranges size n le are.1)

-- ---- records of a block

largest : LARGEST_BLOCK ≡ 2 ^ 14
largest = refl

left : (byte size : ℕ) → byte + size ≤ LARGEST_BLOCK → size ≤ 2 ^ 15 - byte
left byte size inside = omega (arith, inside, largest)

pub predicate_near : (p : Predicate) (byte size : ℕ) → byte + size ≤ LARGEST_BLOCK → IsPredicate size p → IsPredicate (2 ^ 15 - byte) p
predicate_near p byte size inside is = predicate_in p size (2 ^ 15 - byte) (left byte size inside) is

pub tallies_near : (ts : List Tally) (byte size : ℕ) → byte + size ≤ LARGEST_BLOCK → AreTallies size ts → AreTallies (2 ^ 15 - byte) ts
tallies_near ts byte size inside is = tallies_in ts size (2 ^ 15 - byte) (left byte size inside) is

grouping_in : (by : Option Grouping) (size n : ℕ) → size ≤ n → IsGrouping size by → IsGrouping n by
grouping_in None size n le is = is
grouping_in (Some by) size n le is = (field_in by.field size n le is.0, is.1, is.2, is.3)

pub grouping_near : (by : Option Grouping) (byte size : ℕ) → byte + size ≤ LARGEST_BLOCK → IsGrouping size by → IsGrouping (2 ^ 15 - byte) by
grouping_near by byte size inside is = grouping_in by size (2 ^ 15 - byte) (left byte size inside) is

-- a group's words are no more than all
few_of : (by : Option Grouping) (size n : ℕ) → IsGrouping size by → 8 * (groups by * n) ≤ SCRATCH_BYTES → 8 * n ≤ SCRATCH_BYTES
few_of None size n is few = omega (arith, few)
few_of (Some by) size n is few =
    let most : 1 * n ≤ by.values * n = mul-le 1 n by.values n is.2 (omega arith) in
    omega (arith, few, most)

pub tallies_few : (q : Question) (block : ℕ) → IsQuestion block q → 8 * length q.tallies.items ≤ SCRATCH_BYTES
tallies_few q block is = few_of q.by q.size (length q.tallies.items) is.by is.few_tallies

pub ranges_near : (ranges : List ByteRange) (byte size : ℕ) → byte + size ≤ LARGEST_BLOCK → AreRanges size ranges → AreRanges (2 ^ 15 - byte) ranges
ranges_near ranges byte size inside are = ranges_in ranges size (2 ^ 15 - byte) (left byte size inside) are

pub record_inside : (q : Question) (i : ℕ) → IsQuestion LARGEST_BLOCK q → i < q.count → q.first + i * q.size + q.size ≤ LARGEST_BLOCK
record_inside q i is less =
    let most : (i + 1) * q.size ≤ q.count * q.size = mul-le (i + 1) q.size q.count q.size (omega (arith, less)) (omega arith) in
    let inside = is.inside in
    omega (arith, most, inside)
