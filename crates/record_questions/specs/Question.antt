-- What a question about records of one length means.
use Rattle.std.specs.Prelude.{ℕ, ℤ, pos, Bool, ◌&&◌, ◌||◌, not, int_lt, int_le, length, List, [], ◌∷◌, map, filter, take, drop}
use Rattle.std.specs.List.{flat_map}
use Rattle.std.specs.Ordering.{int_eq}
use Rattle.std.specs.Str.{bytes_eq}
use Rattle.byteorder.specs.Endian.{big_number, little_number, twos_complement}
use Rattle.common_definitions.specs.Bytes.{pieces}
use Rattle.instruction_set.specs.Instruction.{size_of}
use Rattle.record_questions.specs.declared.question.Sign.{Sign}
use Rattle.record_questions.specs.declared.question.Sign.TheVariants.{Unsigned, Signed}
use Rattle.record_questions.specs.declared.question.ByteOrder.{ByteOrder}
use Rattle.record_questions.specs.declared.question.ByteOrder.TheVariants.{Little, Big}
use Rattle.record_questions.specs.declared.question.Field.{Field}
use Rattle.record_questions.specs.declared.question.Comparison.{Comparison}
use Rattle.record_questions.specs.declared.question.Comparison.TheVariants.{Equal, NotEqual, Less, LessOrEqual, Greater, GreaterOrEqual}
use Rattle.record_questions.specs.declared.question.Operand.{Operand}
use Rattle.record_questions.specs.declared.question.Operand.TheVariants as operands
use Rattle.record_questions.specs.declared.question.Predicate.{Predicate}
use Rattle.record_questions.specs.declared.question.Predicate.TheVariants.{Compare, Bytes, And', Or', Not'}
use Rattle.record_questions.specs.declared.question.ByteRange.{ByteRange}
use Rattle.record_questions.specs.declared.question.Question.{Question}

-- the number that so many bytes spell
abbrev pub number_of : ByteOrder → ℕ → List ℕ → ℕ
number_of Little count bytes = little_number count bytes
number_of Big count bytes = big_number count bytes

-- the number in a field of a record, without a sign
abbrev pub number_in : Field → List ℕ → ℕ
number_in f r = number_of f.order (size_of f.size) (drop f.offset r)

-- the value of a number of so many bytes
abbrev pub signed_by : Sign → ℕ → ℕ → ℤ
signed_by Unsigned count x = pos x
signed_by Signed count x = twos_complement count x

-- the value of a field of a record
abbrev pub value_of : Field → List ℕ → ℤ
value_of f r = signed_by f.sign (size_of f.size) (number_in f r)

-- the value that a field is compared with, where the run has this argument
abbrev pub operand_value : ℕ → Operand → List ℕ → ℤ
operand_value argument (operands.Number z) r = z
operand_value argument operands.Argument r = pos argument
operand_value argument (operands.Field f) r = value_of f r

-- do two values compare so?
abbrev pub compares : Comparison → ℤ → ℤ → Bool
compares Equal x y = int_eq x y
compares NotEqual x y = not (int_eq x y)
compares Less x y = int_lt x y
compares LessOrEqual x y = int_le x y
compares Greater x y = int_lt y x
compares GreaterOrEqual x y = int_le y x

-- does a record match, where the run has this argument?
abbrev pub matches : ℕ → Predicate → List ℕ → Bool
matches argument (Compare f comparison operand) r = compares comparison (value_of f r) (operand_value argument operand r)
matches argument (Bytes offset bytes) r = bytes_eq (take (length bytes.items) (drop offset r)) bytes.items
matches argument (And' x p y q) r = matches argument p r && matches argument q r
matches argument (Or' x p y q) r = matches argument p r || matches argument q r
matches argument (Not' x p) r = not (matches argument p r)

-- the records of a block
abbrev pub records_in : Question → List ℕ → List (List ℕ)
records_in q block = pieces q.size q.count (drop q.first block)

-- the records of a block that match
abbrev pub matching : Question → ℕ → List ℕ → List (List ℕ)
matching q argument block = filter (matches argument q.wanted) (records_in q block)

-- the bytes of a record in a range
abbrev pub bytes_in : ByteRange → List ℕ → List ℕ
bytes_in range r = take range.size (drop range.offset r)

-- its bytes in these ranges, one range after another
abbrev pub cut : List ByteRange → List ℕ → List ℕ
cut ranges r = flat_map (λ range. bytes_in range r) ranges

-- what is emitted of these records: nothing, where no range is
abbrev pub cuts : List ByteRange → List (List ℕ) → List (List ℕ)
cuts [] records = []
cuts (range ∷ ranges) records = map (cut (range ∷ ranges)) records

-- the answer of a block: what is emitted of its records that match, in order
abbrev pub answer : Question → ℕ → List ℕ → List (List ℕ)
answer q argument block = cuts q.emitted.items (matching q argument block)
