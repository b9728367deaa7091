-- Comparisons and operands in words.
use Rattle.std.specs.Prelude.{ℕ, ℤ, pos, negsuc, int_le, ◌==◌, Bool, true, false, ◌&&◌, ◌||◌, if◌then◌else◌, List, slice_index, Result, Ok, Err, codes}
use Rattle.std.specs.Char.{is_ascii_digit}
use Rattle.std.specs.Fmt.{signed_decimal}
use Rattle.std.specs.Str.{bytes_eq}
use Rattle.instruction_set.specs.declared.operation.Size.{Size}
use Rattle.instruction_set.specs.declared.operation.Size.TheVariants.{Byte, HalfWord, Word, DoubleWord}
use Rattle.record_questions.specs.declared.question.Field.{Field}
use Rattle.record_questions.specs.declared.question.Sign.{Sign}
use Rattle.record_questions.specs.declared.question.Sign.TheVariants.{Unsigned, Signed}
use Rattle.record_questions.specs.declared.question.Comparison.{Comparison}
use Rattle.record_questions.specs.declared.question.Comparison.TheVariants.{Equal, NotEqual, Less, LessOrEqual, Greater, GreaterOrEqual}
use Rattle.record_questions.specs.declared.question.Operand.{Operand}
use Rattle.record_questions.specs.declared.question.Operand.TheVariants as operands
use Rattle.common_definitions.specs.Readings.{◌>>=◌}
use Rattle.question_words.specs.declared.fault.FaultKind.{FaultKind}
use Rattle.question_words.specs.declared.fault.FaultKind.TheVariants as kinds
use Rattle.question_words.specs.Cutting.{is_word_byte}
use Rattle.question_words.specs.Field.{field_of, field_text}
use Rattle.question_words.specs.Number.{literal_of}

-- a comparison as a word
abbrev pub comparison_text : Comparison → List ℕ
comparison_text Equal = codes "=="
comparison_text NotEqual = codes "!="
comparison_text Less = codes "<"
comparison_text LessOrEqual = codes "<="
comparison_text Greater = codes ">"
comparison_text GreaterOrEqual = codes ">="

-- the comparison that a word is
abbrev pub comparison_of : List ℕ → Result Comparison FaultKind
comparison_of word =
    if bytes_eq word (codes "==") then Ok Equal
    else (if bytes_eq word (codes "!=") then Ok NotEqual
    else (if bytes_eq word (codes "<") then Ok Less
    else (if bytes_eq word (codes "<=") then Ok LessOrEqual
    else (if bytes_eq word (codes ">") then Ok Greater
    else (if bytes_eq word (codes ">=") then Ok GreaterOrEqual else Err kinds.Comparison)))))

-- the least number of a type
abbrev pub least_of : Sign → Size → ℤ
least_of Unsigned size = pos 0
least_of Signed Byte = negsuc 127
least_of Signed HalfWord = negsuc 32767
least_of Signed Word = negsuc 2147483647
least_of Signed DoubleWord = negsuc 9223372036854775807

-- and the greatest
abbrev pub greatest_of : Sign → Size → ℤ
greatest_of Unsigned Byte = pos 255
greatest_of Unsigned HalfWord = pos 65535
greatest_of Unsigned Word = pos 4294967295
greatest_of Unsigned DoubleWord = pos 18446744073709551615
greatest_of Signed Byte = pos 127
greatest_of Signed HalfWord = pos 32767
greatest_of Signed Word = pos 2147483647
greatest_of Signed DoubleWord = pos 9223372036854775807

-- has a field's type this number?
abbrev pub is_of_type : Field → ℤ → Bool
is_of_type field number = int_le (least_of field.sign field.size) number && int_le number (greatest_of field.sign field.size)

-- a number, where a field's type has it
abbrev pub number_for : Field → ℤ → Result Operand FaultKind
number_for field number = if is_of_type field number then Ok (operands.Number number) else Err kinds.Range

-- is the one signed as the other is?
abbrev pub is_same_sign : Sign → Sign → Bool
is_same_sign Unsigned Unsigned = true
is_same_sign Signed Signed = true
is_same_sign Unsigned Signed = false
is_same_sign Signed Unsigned = false

-- a field, where it is signed as the other is
abbrev pub field_for : Field → Field → Result Operand FaultKind
field_for against field = if is_same_sign against.sign field.sign then Ok (operands.Field field) else Err kinds.Sign

-- does a word begin as numbers do?
abbrev pub begins_number : List ℕ → Bool
begins_number word = is_ascii_digit (slice_index word 0) || slice_index word 0 == 45

-- an operand as a word
abbrev pub operand_word : Operand → List ℕ
operand_word (operands.Number number) = signed_decimal number
operand_word operands.Argument = codes "arg"
operand_word (operands.Field field) = field_text field

-- the operand that a word is, after a field and a comparison: a number of the field's type, the argument, or a field
abbrev pub operand_of : List (List ℕ × Field) → Field → List ℕ → Result Operand FaultKind
operand_of layout against word =
    if begins_number word then (literal_of word >>= number_for against)
    else (if bytes_eq word (codes "arg") then Ok operands.Argument
    else (if is_word_byte (slice_index word 0) then (field_of layout word >>= field_for against)
    else Err kinds.Operand))
