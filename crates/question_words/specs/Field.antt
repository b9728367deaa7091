-- Fields in words: a type, `@` and an offset, or a name of the layout.
use Rattle.std.specs.Prelude.{ℕ, ◌==◌, nat_lt, if◌then◌else◌, List, [], ◌∷◌, ◌++◌, Option, Some, None, Result, Ok, Err, codes, ok_or}
use Rattle.std.specs.Fmt.{decimal}
use Rattle.std.specs.Str.{bytes_eq}
use Rattle.instruction_set.specs.declared.operation.Size.{Size}
use Rattle.instruction_set.specs.declared.operation.Size.TheVariants.{Byte, HalfWord, Word, DoubleWord}
use Rattle.record_questions.specs.declared.question.Field.{Field}
use Rattle.record_questions.specs.declared.question.Sign.{Sign}
use Rattle.record_questions.specs.declared.question.Sign.TheVariants.{Unsigned, Signed}
use Rattle.record_questions.specs.declared.question.ByteOrder.{ByteOrder}
use Rattle.record_questions.specs.declared.question.ByteOrder.TheVariants.{Little, Big}
use Rattle.common_definitions.specs.Readings.{◌>>=◌}
use Rattle.text_lines.specs.Cut.{cut_at}
use Rattle.text_lines.specs.Number.{decimal_of}
use Rattle.question_words.specs.declared.fault.FaultKind.{FaultKind}
use Rattle.question_words.specs.declared.fault.FaultKind.TheVariants as kinds
use Rattle.question_words.specs.Layout.{field_named}

-- the letter of a sign
abbrev pub sign_letter : Sign → ℕ
sign_letter Unsigned = 117
sign_letter Signed = 105

-- the bits of a number, and `be` where its highest byte comes first
abbrev pub shape_text : Size → ByteOrder → List ℕ
shape_text Byte Little = codes "8"
shape_text HalfWord Little = codes "16"
shape_text Word Little = codes "32"
shape_text DoubleWord Little = codes "64"
shape_text Byte Big = codes "8be"
shape_text HalfWord Big = codes "16be"
shape_text Word Big = codes "32be"
shape_text DoubleWord Big = codes "64be"

-- a field: its type, `@` and its offset
abbrev pub field_text : Field → List ℕ
field_text field = sign_letter field.sign ∷ (shape_text field.size field.order ++ 64 ∷ decimal field.offset)

-- the sign of a letter
abbrev pub sign_of : ℕ → Result Sign FaultKind
sign_of letter = if letter == 117 then Ok Unsigned else (if letter == 105 then Ok Signed else Err kinds.Type)

-- the size and the order of a text
abbrev pub shape_of : List ℕ → Result (Size × ByteOrder) FaultKind
shape_of text =
    if bytes_eq text (codes "8") then Ok (Byte, Little)
    else (if bytes_eq text (codes "16") then Ok (HalfWord, Little)
    else (if bytes_eq text (codes "32") then Ok (Word, Little)
    else (if bytes_eq text (codes "64") then Ok (DoubleWord, Little)
    else (if bytes_eq text (codes "8be") then Ok (Byte, Big)
    else (if bytes_eq text (codes "16be") then Ok (HalfWord, Big)
    else (if bytes_eq text (codes "32be") then Ok (Word, Big)
    else (if bytes_eq text (codes "64be") then Ok (DoubleWord, Big) else Err kinds.Type)))))))

-- an offset, where there is a number
abbrev pub offset_in : Option ℕ → Result ℕ FaultKind
offset_in None = Err kinds.Offset
offset_in (Some number) = if nat_lt number 65536 then Ok number else Err kinds.Offset

-- the offset that decimal digits write
abbrev pub offset_of : List ℕ → Result ℕ FaultKind
offset_of text = offset_in (decimal_of text)

-- the field of a type, at an offset
abbrev pub typed_of : List ℕ → List ℕ → Result Field FaultKind
typed_of [] at = Err kinds.Type
typed_of (letter ∷ rest) at = do
  sign ← sign_of letter
  shape ← shape_of rest
  offset ← offset_of at
  Ok (record { size = shape.0; offset = offset; sign = sign; order = shape.1 })

-- the field that a word is: what is before and after its `@`, or else the layout's field of that name
abbrev pub field_in : List (List ℕ × Field) → List ℕ → Option (List ℕ × List ℕ) → Result Field FaultKind
field_in layout word (Some parts) = typed_of parts.0 parts.1
field_in layout word None = ok_or (field_named layout word) kinds.Name

abbrev pub field_of : List (List ℕ × Field) → List ℕ → Result Field FaultKind
field_of layout word = field_in layout word (cut_at 64 word)
