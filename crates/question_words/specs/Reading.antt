-- Reading: a word after another changes what is read so far, until one can't, or the text ends.
use Rattle.std.specs.Prelude.{ℕ, ◌+◌, ◌-◌, ◌==◌, nat_lt, Bool, true, false, ◌||◌, ◌&&◌, if◌then◌else◌, List, [], ◌∷◌, length, drop, slice_index, Option, Some, None, Result, Ok, Err, codes}
use Rattle.std.specs.Str.{bytes_eq}
use Rattle.hex.specs.Hex.{decode_of}
use Rattle.instruction_set.specs.Instruction.{size_of}
use Rattle.record_questions.specs.declared.question.Field.{Field}
use Rattle.record_questions.specs.declared.question.Comparison.{Comparison}
use Rattle.record_questions.specs.declared.question.Comparison.TheVariants.{Equal, NotEqual}
use Rattle.common_definitions.specs.Readings.{◌>>=◌}
use Rattle.text_lines.specs.Cut.{cut_at}
use Rattle.question_words.specs.declared.fault.FaultKind.{FaultKind}
use Rattle.question_words.specs.declared.fault.FaultKind.TheVariants as kinds
use Rattle.question_words.specs.declared.fault.WordFault.{WordFault}
use Rattle.question_words.specs.declared.reading.TheConstants.{MOST_BYTES}
use Rattle.question_words.specs.Condition.{Condition, Compare, Bytes, And, Or, Not}
use Rattle.question_words.specs.Cutting.{Cut, cuts, is_word_byte}
use Rattle.question_words.specs.Fault.{at, refused}
use Rattle.question_words.specs.Field.{field_of, offset_of}
use Rattle.question_words.specs.Operand.{begins_number, comparison_of, operand_of}
use Rattle.question_words.specs.Within.{Within, Begun, From, Until, First, Listed, More, bound_of, more_condition, one_condition, range_condition}

-- what is open before the place that is read, the nearest first: a `!`, a parenthesis, or the first of two conditions
pub data Open : Type 0 where
  OpenNot : Open
  OpenParenthesis : Open
  OpenAnd : (first : Condition) → Open
  OpenOr : (first : Condition) → Open

-- what the place begins with: a condition is wanted; after a field a comparison; after that an operand; the same of bytes, which are
-- to be there or not; after a field and `in` a part of a range or a set; or a condition is whole, but for what is open
pub data Stage : Type 0 where
  Wanted : Stage
  Compared : (field : Field) → Stage
  Against : (field : Field) (comparison : Comparison) → Stage
  BytesCompared : (offset : ℕ) → Stage
  AgainstBytes : (offset : ℕ) (there : Bool) → Stage
  In : (field : Field) (part : Within) → Stage
  Whole : (condition : Condition) → Stage

-- what is read so far
pub record State : Type 0 where
  pub stage : Stage
  pub before : List Open

-- a condition is whole: a `!` and an `&&` before it take it
abbrev pub settled : List Open → Condition → State
settled [] p = record { stage = Whole p; before = [] }
settled (OpenNot ∷ before) p = settled before (Not p)
settled (OpenAnd first ∷ before) p = settled before (And first p)
settled (OpenParenthesis ∷ before) p = record { stage = Whole p; before = OpenParenthesis ∷ before }
settled (OpenOr first ∷ before) p = record { stage = Whole p; before = OpenOr first ∷ before }

-- an `||` before a condition takes it too
abbrev pub with_or : List Open → Condition → Condition × List Open
with_or (OpenOr first ∷ before) p = (Or first p, before)
with_or (OpenNot ∷ before) p = (p, OpenNot ∷ before)
with_or (OpenParenthesis ∷ before) p = (p, OpenParenthesis ∷ before)
with_or (OpenAnd first ∷ before) p = (p, OpenAnd first ∷ before)
with_or [] p = (p, [])

-- a `)` closes the parenthesis that is open
abbrev pub closed : ℕ → Condition × List Open → Result State WordFault
closed column (p, OpenParenthesis ∷ before) = Ok (settled before p)
closed column (p, _) = refused column kinds.NotOpened

-- a condition is all where nothing is open
abbrev pub all_of : ℕ → Condition × List Open → Result Condition WordFault
all_of column (p, []) = Ok p
all_of column (p, _) = refused column kinds.NotClosed

-- a field or an offset of bytes, as what is compared
abbrev pub subject_in : List (List ℕ × Field) → List ℕ → Option (List ℕ × List ℕ) → Result Stage FaultKind
subject_in layout word None = field_of layout word >>= λ field. Ok (Compared field)
subject_in layout word (Some parts) =
    if bytes_eq parts.0 (codes "bytes") then (offset_of parts.1 >>= λ offset. Ok (BytesCompared offset))
    else (field_of layout word >>= λ field. Ok (Compared field))

abbrev pub subject_of : List (List ℕ × Field) → List ℕ → Result Stage FaultKind
subject_of layout word =
    if begins_number word || bytes_eq word (codes "arg") then Err kinds.Left
    else (if is_word_byte (slice_index word 0) then subject_in layout word (cut_at 64 word) else Err kinds.Condition)

-- a condition is wanted: a `!`, a `(`, or what is compared
unfoldable pub wanted : List (List ℕ × Field) → ℕ → List ℕ → List Open → Result State WordFault
wanted layout column word before =
    if bytes_eq word (codes "!") then Ok (record { stage = Wanted; before = OpenNot ∷ before })
    else (if bytes_eq word (codes "(") then Ok (record { stage = Wanted; before = OpenParenthesis ∷ before })
    else (at column (subject_of layout word) >>= λ stage. Ok (record { stage = stage; before = before })))

-- bytes are to be there, or not
abbrev pub is_there : List ℕ → Result Bool FaultKind
is_there word =
    if bytes_eq word (codes "==") then Ok true else (if bytes_eq word (codes "!=") then Ok false else Err kinds.BytesComparison)

-- bytes, where digits write some
abbrev pub decoded : {E : Type 0} → Result (List ℕ) E → Result (List ℕ) FaultKind
decoded (Ok bytes) = Ok bytes
decoded (Err fault) = Err kinds.Bytes

-- the bytes that digits write: one byte or more, since each record has no bytes everywhere
abbrev pub bytes_written : List ℕ → Result (List ℕ) FaultKind
bytes_written digits = if length digits == 0 then Err kinds.Bytes else decoded (decode_of digits)

-- those before the second quote
abbrev pub bytes_before_quote : Option (List ℕ × List ℕ) → Result (List ℕ) FaultKind
bytes_before_quote None = Err kinds.Quote
bytes_before_quote (Some parts) = if length parts.0 == 0 then Err kinds.Bytes else Ok parts.0

-- the bytes that a word is: between quotes, or by digits after `0x`
abbrev pub bytes_of : List ℕ → Result (List ℕ) FaultKind
bytes_of word =
    if slice_index word 0 == 34 then bytes_before_quote (cut_at 34 (drop 1 word))
    else (if slice_index word 0 == 48 && slice_index word 1 == 120 then bytes_written (drop 2 word) else Err kinds.Bytes)

-- a record has these bytes, or hasn't
abbrev pub bytes_condition : ℕ → Bool → List ℕ → Condition
bytes_condition offset there bytes = if there then Bytes offset bytes else Not (Bytes offset bytes)

-- a condition is whole: an `&&`, an `||` or a `)`
unfoldable pub joined : ℕ → List ℕ → Condition → List Open → Result State WordFault
joined column word p before =
    if bytes_eq word (codes "&&") then Ok (record { stage = Wanted; before = OpenAnd p ∷ before })
    else (if bytes_eq word (codes "||")
    then (let whole = with_or before p in Ok (record { stage = Wanted; before = OpenOr whole.0 ∷ whole.1 }))
    else (if bytes_eq word (codes ")") then closed column (with_or before p) else refused column kinds.Joint))

-- more is wanted of a range or a set
abbrev pub in_state : Field → Within → List Open → State
in_state field part before = record { stage = In field part; before = before }

-- after an element of a set a `,` or a `}`
unfoldable pub listed : ℕ → List ℕ → Field → Condition → List Open → Result State WordFault
listed column word field p before =
    if bytes_eq word (codes ",") then Ok (in_state field (More p) before)
    else (if bytes_eq word (codes "}") then Ok (settled before p) else refused column kinds.Element)

-- the first bound of a range
unfoldable pub bounded : List (List ℕ × Field) → ℕ → List ℕ → Field → List Open → Result State WordFault
bounded layout column word field before = at column (operand_of layout field word) >>= λ least. Ok (in_state field (From least) before)

-- after `in` a `{`, or the first bound of a range
unfoldable pub begun : List (List ℕ × Field) → ℕ → List ℕ → Field → List Open → Result State WordFault
begun layout column word field before =
    if bytes_eq word (codes "{") then Ok (in_state field First before) else bounded layout column word field before

-- what a word makes of a range or a set
unfoldable pub next_within : List (List ℕ × Field) → ℕ → List ℕ → Field → Within → List Open → Result State WordFault
next_within layout column word field Begun before = begun layout column word field before
next_within layout column word field (From least) before =
    at column (bound_of word) >>= λ comparison. Ok (in_state field (Until least comparison) before)
next_within layout column word field (Until least comparison) before =
    at column (operand_of layout field word) >>= λ bound. Ok (settled before (range_condition field least comparison bound))
next_within layout column word field First before =
    at column (operand_of layout field word) >>= λ element. Ok (in_state field (Listed (one_condition field element)) before)
next_within layout column word field (Listed p) before = listed column word field p before
next_within layout column word field (More p) before =
    at column (operand_of layout field word) >>= λ element. Ok (in_state field (Listed (more_condition p field element)) before)

-- after a field a comparison, or `in`
unfoldable pub compared : ℕ → List ℕ → Field → List Open → Result State WordFault
compared column word field before =
    if bytes_eq word (codes "in") then Ok (in_state field Begun before)
    else (at column (comparison_of word) >>= λ comparison. Ok (record { stage = Against field comparison; before = before }))

-- is a text asked for, or another?
abbrev pub is_equal : Comparison → Result Bool FaultKind
is_equal Equal = Ok true
is_equal NotEqual = Ok false
is_equal _ = Err kinds.BytesComparison

-- bytes, where they are as many as a field has
abbrev pub sized : Field → List ℕ → Result (List ℕ) FaultKind
sized field bytes = if length bytes == size_of field.size then Ok bytes else Err kinds.Length

-- the text that a word is, which has as many bytes as a field
unfoldable pub text_at : ℕ → Field → List ℕ → Result (List ℕ) WordFault
text_at column field word = at column (bytes_of word) >>= λ bytes. at column (sized field bytes)

-- a field is compared with a text
unfoldable pub text_against : ℕ → List ℕ → Field → Comparison → List Open → Result State WordFault
text_against column word field comparison before =
    at column (is_equal comparison) >>= λ there. text_at column field word >>= λ bytes.
    Ok (settled before (bytes_condition field.offset there bytes))

-- a field is compared with an operand
unfoldable pub operand_against : List (List ℕ × Field) → ℕ → List ℕ → Field → Comparison → List Open → Result State WordFault
operand_against layout column word field comparison before =
    at column (operand_of layout field word) >>= λ operand. Ok (settled before (Compare field comparison operand))

-- after a field and a comparison a text in quotes, or an operand
unfoldable pub against : List (List ℕ × Field) → ℕ → List ℕ → Field → Comparison → List Open → Result State WordFault
against layout column word field comparison before =
    if slice_index word 0 == 34 then text_against column word field comparison before
    else operand_against layout column word field comparison before

-- what a word that is no blank makes of what is read so far
abbrev pub next : List (List ℕ × Field) → ℕ → List ℕ → Stage → List Open → Result State WordFault
next layout column word Wanted before = wanted layout column word before
next layout column word (Compared field) before = compared column word field before
next layout column word (Against field comparison) before = against layout column word field comparison before
next layout column word (BytesCompared offset) before =
    at column (is_there word) >>= λ there. Ok (record { stage = AgainstBytes offset there; before = before })
next layout column word (AgainstBytes offset there) before =
    at column (bytes_of word) >>= λ bytes. Ok (settled before (bytes_condition offset there bytes))
next layout column word (In field part) before = next_within layout column word field part before
next layout column word (Whole p) before = joined column word p before

-- a space, a tab, a line's end
abbrev pub is_blank : List ℕ → Bool
is_blank word =
    bytes_eq word (codes " ") || (bytes_eq word (9 ∷ []) || (bytes_eq word (10 ∷ []) || bytes_eq word (13 ∷ [])))

-- what a word makes of what is read so far: a blank nothing
abbrev pub step : List (List ℕ × Field) → ℕ → List ℕ → State → Result State WordFault
step layout column word state = if is_blank word then Ok state else next layout column word state.stage state.before

-- what lacks of a range or a set
abbrev pub wanted_within : Within → FaultKind
wanted_within (From least) = kinds.Bound
wanted_within (Listed p) = kinds.Element
wanted_within _ = kinds.Operand

-- the text ends
abbrev pub finished : ℕ → Stage → List Open → Result Condition WordFault
finished column Wanted before = refused column kinds.Condition
finished column (Compared field) before = refused column kinds.Comparison
finished column (Against field comparison) before = refused column kinds.Operand
finished column (BytesCompared offset) before = refused column kinds.BytesComparison
finished column (AgainstBytes offset there) before = refused column kinds.Bytes
finished column (In field part) before = refused column (wanted_within part)
finished column (Whole p) before = all_of column (with_or before p)

-- what these words of a text of so many bytes make of what is read so far
abbrev pub read_words : List (List ℕ × Field) → ℕ → List Cut → State → Result Condition WordFault
read_words layout bytes [] state = finished (bytes + 1) state.stage state.before
read_words layout bytes (cut ∷ cuts) state =
    step layout (bytes - cut.left + 1) cut.word state >>= λ after. read_words layout bytes cuts after

-- nothing is read yet
abbrev pub at_start : State
at_start = record { stage = Wanted; before = [] }

-- the condition that a text is, or its first fault
unfoldable pub condition_of : List (List ℕ × Field) → List ℕ → Result Condition WordFault
condition_of layout text =
    if nat_lt MOST_BYTES (length text) then refused 1 kinds.TooLong else read_words layout (length text) (cuts text) at_start
