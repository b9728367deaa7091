-- The laws of questions in words.
use Rattle.std.specs.Prelude.{ℕ, ◌≡◌, ◌<◌, ◌≤◌, ◌^◌, ◌⊎◌, ◌==◌, true, not, List, [], ◌∷◌, ◌++◌, length, Some, Ok, codes}
use Rattle.std.specs.Fmt.{decimal}
use Rattle.std.specs.List.{AllByRecursion, list_all}
use Rattle.hex.specs.Hex.{IsBytes}
use Rattle.instruction_set.specs.Instruction.{size_of}
use Rattle.record_questions.specs.declared.question.Comparison.{Comparison}
use Rattle.record_questions.specs.declared.question.Comparison.TheVariants.{Equal, Less, LessOrEqual, GreaterOrEqual}
use Rattle.record_questions.specs.declared.question.Field.{Field}
use Rattle.record_questions.specs.declared.question.Operand.{Operand}
use Rattle.record_questions.specs.declared.question.Operand.TheVariants as operands
use Rattle.question_words.specs.declared.reading.TheConstants.{MOST_BYTES}
use Rattle.question_words.specs.Condition.{Condition, Compare, Bytes, And, Or, Not}
use Rattle.question_words.specs.Field.{field_text}
use Rattle.question_words.specs.Layout.{field_named}
use Rattle.question_words.specs.LayoutText.{is_field_name}
use Rattle.question_words.specs.Operand.{comparison_text, is_of_type, is_same_sign, operand_word}
use Rattle.question_words.specs.Printing.{bytes_text, condition_text, part_text}
use Rattle.question_words.specs.Reading.{condition_of}

-- a field whose offset fits the type that it has in the code
abbrev pub IsField : Field → Type 0
IsField field = field.offset < 2 ^ 16

-- an operand for a field: a number of the field's type, the argument, or a field that is signed as it is
abbrev pub IsOperand : Field → Operand → Type 0
IsOperand field (operands.Number number) = is_of_type field number ≡ true
IsOperand field operands.Argument = Unit {0}
IsOperand field (operands.Field other) = IsField other × (is_same_sign field.sign other.sign ≡ true)

-- a condition whose numbers fit their fields, and whose bytes are one or more
abbrev pub IsCondition : Condition → Type 0
IsCondition (Compare field comparison operand) = IsField field × IsOperand field operand
IsCondition (Bytes offset bytes) = (offset < 2 ^ 16) × (IsBytes bytes × (0 < length bytes))
IsCondition (And p q) = IsCondition p × IsCondition q
IsCondition (Or p q) = IsCondition p × IsCondition q
IsCondition (Not p) = IsCondition p

-- a text is read as this condition by a layout, if it isn't longer than a question can be
abbrev pub ReadsBy : List (List ℕ × Field) → List ℕ → Condition → Type 0
ReadsBy layout text p = length text ≤ MOST_BYTES → condition_of layout text ≡ Ok p

-- the same, whatever the layout
abbrev pub ReadsAs : List ℕ → Condition → Type 0
ReadsAs text p = (layout : List (List ℕ × Field)) → ReadsBy layout text p

-- what is printed of a condition is read as the same
abbrev pub WordsReadBack : Type 0
WordsReadBack = (p : Condition) → IsCondition p → ReadsAs (condition_text p) p

-- three conditions in a row, with a word between each two
abbrev pub row_text : Condition → List ℕ → Condition → List ℕ → Condition → List ℕ
row_text p first q second r = part_text p ++ (first ++ (part_text q ++ (second ++ part_text r)))

-- where no parentheses say otherwise, `!` takes the condition next to it, `&&` is before `||`, and of two that are the same the first
-- is before the second
pub record Precedence (p q r : Condition) : Type 0 where
  pub or_and : ReadsAs (row_text p (codes " || ") q (codes " && ") r) (Or p (And q r))
  pub and_or : ReadsAs (row_text p (codes " && ") q (codes " || ") r) (Or (And p q) r)
  pub and_and : ReadsAs (row_text p (codes " && ") q (codes " && ") r) (And (And p q) r)
  pub or_or : ReadsAs (row_text p (codes " || ") q (codes " || ") r) (Or (Or p q) r)
  pub not_and : ReadsAs (codes "!" ++ (part_text p ++ (codes " && " ++ part_text q))) (And (Not p) q)
  pub not_or : ReadsAs (codes "!" ++ (part_text p ++ (codes " || " ++ part_text q))) (Or (Not p) q)

abbrev pub WordsHavePrecedence : Type 0
WordsHavePrecedence = (p q r : Condition) → IsCondition p → IsCondition q → IsCondition r → Precedence p q r

-- bytes by `!=` are the opposite of the same by `==`
abbrev pub OtherBytesRead : Type 0
OtherBytesRead =
    (offset : ℕ) (bytes : List ℕ) → IsCondition (Bytes offset bytes)
    → ReadsAs (bytes_text offset (codes " != 0x") bytes) (Not (Bytes offset bytes))

-- bytes between quotes
abbrev pub quoted : List ℕ → List ℕ
quoted bytes = 34 ∷ (bytes ++ 34 ∷ [])

-- a comparison of bytes that are between quotes
abbrev pub quoted_text : ℕ → List ℕ → List ℕ → List ℕ
quoted_text offset comparison bytes = codes "bytes@" ++ (decimal offset ++ (comparison ++ quoted bytes))

-- bytes between quotes, of which none is a quote, are read as they are
abbrev pub QuotesRead : Type 0
QuotesRead =
    (offset : ℕ) (bytes : List ℕ) → offset < 2 ^ 16 → 0 < length bytes → list_all (λ byte. not (byte == 34)) bytes ≡ true
    → ReadsAs (quoted_text offset (codes " == ") bytes) (Bytes offset bytes)
    × ReadsAs (quoted_text offset (codes " != ") bytes) (Not (Bytes offset bytes))

-- a comparison of what has a name
abbrev pub named_text : List ℕ → Comparison → Operand → List ℕ
named_text name comparison operand = name ++ (codes " " ++ (comparison_text comparison ++ (codes " " ++ operand_word operand)))

-- a name of the layout is read as its field
abbrev pub NamesRead : Type 0
NamesRead =
    (layout : List (List ℕ × Field)) (name : List ℕ) (field : Field) (comparison : Comparison) (operand : Operand)
    → is_field_name name ≡ true → field_named layout name ≡ Some field → IsOperand field operand
    → ReadsBy layout (named_text name comparison operand) (Compare field comparison operand)

-- a word says a field: it is its type and offset, or its name in the layout
abbrev pub Says : List (List ℕ × Field) → List ℕ → Field → Type 0
Says layout word field =
    (IsField field × (word ≡ field_text field)) ⊎ ((is_field_name word ≡ true) × (field_named layout word ≡ Some field))

-- a field is in a range
abbrev pub range_text : List ℕ → Operand → List ℕ → Operand → List ℕ
range_text word least dots bound = word ++ (codes " in " ++ (operand_word least ++ (dots ++ operand_word bound)))

-- a range has its first bound, and by `..=` its second
abbrev pub RangesRead : Type 0
RangesRead =
    (layout : List (List ℕ × Field)) (word : List ℕ) (field : Field) (least bound : Operand)
    → Says layout word field → IsOperand field least → IsOperand field bound
    → ReadsBy layout (range_text word least (codes "..") bound)
    (And (Compare field GreaterOrEqual least) (Compare field Less bound))
    × ReadsBy layout (range_text word least (codes "..=") bound)
    (And (Compare field GreaterOrEqual least) (Compare field LessOrEqual bound))

-- what is after the first element of a set
abbrev pub rest_text : List Operand → List ℕ
rest_text [] = codes "}"
rest_text (element ∷ rest) = codes ", " ++ (operand_word element ++ rest_text rest)

-- a field is in a set
abbrev pub set_text : List ℕ → Operand → List Operand → List ℕ
set_text word first rest = word ++ (codes " in {" ++ (operand_word first ++ rest_text rest))

-- a field is compared with a text of as many bytes, of which none is a quote: they are asked for where the field is, or others
abbrev pub TextsRead : Type 0
TextsRead =
    (layout : List (List ℕ × Field)) (word : List ℕ) (field : Field) (bytes : List ℕ) → Says layout word field
    → length bytes ≡ size_of field.size → list_all (λ byte. not (byte == 34)) bytes ≡ true
    → ReadsBy layout (word ++ (codes " == " ++ quoted bytes)) (Bytes field.offset bytes)
    × ReadsBy layout (word ++ (codes " != " ++ quoted bytes)) (Not (Bytes field.offset bytes))

-- it is one of some operands, to each of which it is compared in turn
abbrev pub either_of : Field → Condition → List Operand → Condition
either_of field p [] = p
either_of field p (element ∷ rest) = either_of field (Or p (Compare field Equal element)) rest

-- of a set the field equals one of the elements
abbrev pub SetsRead : Type 0
SetsRead =
    (layout : List (List ℕ × Field)) (word : List ℕ) (field : Field) (first : Operand) (rest : List Operand)
    → Says layout word field → IsOperand field first → AllByRecursion (IsOperand field) rest
    → ReadsBy layout (set_text word first rest) (either_of field (Compare field Equal first) rest)

-- a layout whose fields' offsets fit, as each does that code can make
abbrev pub IsLayout : List (List ℕ × Field) → Type 0
IsLayout layout = (name : List ℕ) (field : Field) → field_named layout name ≡ Some field → IsField field

-- what is read of a text of bytes is a condition whose numbers fit, so that what is printed of it is read back
abbrev pub ReadIsCondition : Type 0
ReadIsCondition =
    (layout : List (List ℕ × Field)) (text : List ℕ) (p : Condition) → IsLayout layout → IsBytes text
    → condition_of layout text ≡ Ok p → IsCondition p
