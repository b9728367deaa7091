-- What is read of a text is a condition whose numbers fit their fields.
use Rattle.std.proofs.Common.{◌≡◌, ℕ, ℤ, zero, suc, ◌+◌, ◌-◌, ◌<◌, ◌^◌, Bool, true, false, cond, eqb, ltb, ◌&&◌, ◌||◌, List, [], ◌∷◌, length, get_or, take, drop, Option, Some, None, Result, Ok, Err, IfOk, ok_or, bytes_eq, refl, subst, codes, arith}
use Rattle.std.specs.Prelude.{⊤}
use Rattle.std.specs.List.{AllByRecursion, after_first, position_or_len}
use Rattle.std.proofs.lemmas.Bool.{ltb-true}
use Rattle.hex.specs.Hex.{IsBytes, decode_of}
use Rattle.hex.proofs.HexLemmas.{decode_of-ok}
use Rattle.instruction_set.specs.Instruction.{size_of}
use Rattle.record_questions.specs.declared.question.Field.{Field}
use Rattle.record_questions.specs.declared.question.Comparison.{Comparison}
use Rattle.record_questions.specs.declared.question.Operand.{Operand}
use Rattle.record_questions.specs.declared.question.Operand.TheVariants as operands
use Rattle.common_definitions.specs.Readings.{◌>>=◌}
use Rattle.text_lines.specs.Cut.{cut_at}
use Rattle.text_lines.specs.Number.{decimal_of}
use Rattle.question_words.specs.declared.fault.FaultKind.{FaultKind}
use Rattle.question_words.specs.declared.fault.FaultKind.TheVariants as kinds
use Rattle.question_words.specs.declared.reading.TheConstants.{MOST_BYTES}
use Rattle.question_words.specs.Condition.{Condition, Compare, Bytes, And, Not}
use Rattle.question_words.specs.Cutting.{Cut, cuts, cuts_after, is_word_byte, width}
use Rattle.question_words.specs.Fault.{at, refused}
use Rattle.question_words.specs.Field.{field_in, field_of, offset_in, offset_of, shape_of, sign_of, typed_of}
use Rattle.question_words.specs.Laws.{IsCondition, IsField, IsLayout, IsOperand, ReadIsCondition}
use Rattle.question_words.specs.Layout.{field_named}
use Rattle.question_words.specs.Number.{literal_of}
use Rattle.question_words.specs.Operand.{begins_number, comparison_of, field_for, is_of_type, is_same_sign, number_for, operand_of}
use Rattle.question_words.specs.Reading.{Against, AgainstBytes, BytesCompared, Compared, In, Open, OpenAnd, OpenNot, OpenOr, OpenParenthesis, Stage, State, Wanted, Whole, against, all_of, at_start, begun, bounded, bytes_before_quote, bytes_condition, bytes_of, bytes_written, closed, compared, condition_of, decoded, finished, in_state, is_blank, is_equal, is_there, joined, listed, next, next_within, operand_against, read_words, settled, sized, step, subject_in, subject_of, text_against, text_at, wanted, with_or}
use Rattle.question_words.specs.Within.{Begun, First, From, Listed, More, Until, Within, bound_of, more_condition, one_condition, range_condition}

-- ---- one reading after another

chained : {E X Y : Type 0} (P : X → Type 0) (Q : Y → Type 0) (r : Result X E) (next : X → Result Y E) → IfOk r P → ((x : X) → P x → IfOk (next x) Q) → IfOk (r >>= next) Q
chained P Q (Ok x) next h f = f x h
chained P Q (Err e) next h f = tt

after_any : {E X Y : Type 0} (Q : Y → Type 0) (r : Result X E) (next : X → Result Y E) → ((x : X) → IfOk (next x) Q) → IfOk (r >>= next) Q
after_any Q (Ok x) next f = f x
after_any Q (Err e) next f = tt

chosen : {E X : Type 0} (P : X → Type 0) (b : Bool) (x y : Result X E) → (b ≡ true → IfOk x P) → (b ≡ false → IfOk y P) → IfOk (cond b x y) P
chosen P true x y h k = h refl
chosen P false x y h k = k refl

placed : {X : Type 0} (P : X → Type 0) (column : ℕ) (r : Result X FaultKind) → IfOk r P → IfOk (at column r) P
placed P column (Ok x) h = h
placed P column (Err kind) h = tt

-- ---- fields, operands and bytes

offset_fits : (o : Option ℕ) → IfOk (offset_in o) (λ (n : ℕ). n < 2 ^ 16)
offset_fits None = tt
offset_fits (Some n) = chosen (λ (m : ℕ). m < 2 ^ 16) (ltb n 65536) (Ok n) (Err kinds.Offset) (λ e. let less = ltb-true n 65536 e in omega (arith, less)) (λ e. tt)

typed_fits : (text place : List ℕ) → IfOk (typed_of text place) IsField
typed_fits [] place = tt
typed_fits (letter ∷ rest) place =
    after_any IsField (sign_of letter) (λ sign. shape_of rest >>= λ shape. offset_of place >>= λ offset. Ok (record { size = shape.0; offset = offset; sign = sign; order = shape.1 }))
    (λ sign. after_any IsField (shape_of rest) (λ shape. offset_of place >>= λ offset. Ok (record { size = shape.0; offset = offset; sign = sign; order = shape.1 }))
    (λ shape. chained (λ (n : ℕ). n < 2 ^ 16) IsField (offset_of place) (λ offset. Ok (record { size = shape.0; offset = offset; sign = sign; order = shape.1 })) (offset_fits (decimal_of place)) (λ offset small. small)))

named_fits : (o : Option Field) → ((f : Field) → o ≡ Some f → IsField f) → IfOk (ok_or o kinds.Name) IsField
named_fits (Some f) h = h f refl
named_fits None h = tt

number_fits : (field : Field) (n : ℤ) → IfOk (number_for field n) (IsOperand field)
number_fits field n = chosen (IsOperand field) (is_of_type field n) (Ok (operands.Number n)) (Err kinds.Range) (λ e. e) (λ e. tt)

field_for_fits : (against field : Field) → IsField field → IfOk (field_for against field) (IsOperand against)
field_for_fits against field small = chosen (IsOperand against) (is_same_sign against.sign field.sign) (Ok (operands.Field field)) (Err kinds.Sign) (λ e. (small, e)) (λ e. tt)

abbrev AreBytes : List ℕ → Type 0
AreBytes bytes = IsBytes bytes × (0 < length bytes)

decoded_fits : {E : Type 0} (r : Result (List ℕ) E) → ((bytes : List ℕ) → r ≡ Ok bytes → AreBytes bytes) → IfOk (decoded r) AreBytes
decoded_fits (Ok bytes) h = h bytes refl
decoded_fits (Err e) h = tt

not_none : (n : ℕ) → eqb n 0 ≡ false → 0 < n
not_none zero h = absurd cc
not_none (suc n) h = omega arith

written_fits : (digits : List ℕ) → IfOk (bytes_written digits) AreBytes
written_fits digits =
    chosen AreBytes (eqb (length digits) 0) (Err kinds.Bytes) (decoded (decode_of digits)) (λ e. tt)
    (λ e. decoded_fits (decode_of digits) (λ bytes h. let ok = decode_of-ok digits bytes h in let some = not_none (length digits) e in (ok.3, omega (arith, ok.2, some))))

-- bytes stay bytes
rest_bytes : (b : ℕ) (bs : List ℕ) → IsBytes (b ∷ bs) → IsBytes bs
rest_bytes b bs small i = small (suc i)

no_bytes : IsBytes []
no_bytes i = omega arith

more_bytes : (b : ℕ) (bs : List ℕ) → b < 256 → IsBytes bs → IsBytes (b ∷ bs)
more_bytes b bs first small zero = first
more_bytes b bs first small (suc i) = small i

bytes_taken : (n : ℕ) (bs : List ℕ) → IsBytes bs → IsBytes (take n bs)
bytes_taken zero [] small = no_bytes
bytes_taken zero (b ∷ bs) small = no_bytes
bytes_taken (suc n) [] small = no_bytes
bytes_taken (suc n) (b ∷ bs) small = more_bytes b (take n bs) (small 0) (bytes_taken n bs (rest_bytes b bs small))

bytes_inside : (word : List ℕ) → IsBytes word → IsBytes (drop 1 word)
bytes_inside [] small = small
bytes_inside (b ∷ bs) small = rest_bytes b bs small

quoted_fits : (n : ℕ) (text rest : List ℕ) (b : Bool) → IsBytes text → IfOk (bytes_before_quote (cond b (Some (take n text, rest)) None)) AreBytes
quoted_fits n text rest false small = tt
quoted_fits n text rest true small =
    chosen AreBytes (eqb (length (take n text)) 0) (Err kinds.Bytes) (Ok (take n text)) (λ e. tt)
    (λ e. (bytes_taken n text small, not_none (length (take n text)) e))

bytes_fit : (word : List ℕ) → IsBytes word → IfOk (bytes_of word) AreBytes
bytes_fit word small =
    let inside = drop 1 word in
    let place = position_or_len (λ b. eqb b 34) inside in
    let other = cond (eqb (get_or word 0 0) 48 && eqb (get_or word 1 0) 120) (bytes_written (drop 2 word)) (Err kinds.Bytes) in
    chosen AreBytes (eqb (get_or word 0 0) 34) (bytes_before_quote (cut_at 34 inside)) other
    (λ e. quoted_fits place inside (after_first (λ b. eqb b 34) inside) (ltb place (length inside)) (bytes_inside word small))
    (λ e. chosen AreBytes (eqb (get_or word 0 0) 48 && eqb (get_or word 1 0) 120) (bytes_written (drop 2 word)) (Err kinds.Bytes) (λ f. written_fits (drop 2 word)) (λ f. tt))

bytes_condition_fits : (offset : ℕ) (there : Bool) (bytes : List ℕ) → IsCondition (Bytes offset bytes) → IsCondition (bytes_condition offset there bytes)
bytes_condition_fits offset true bytes h = h
bytes_condition_fits offset false bytes h = h

-- ---- what is read so far

abbrev IsOpen : Open → Type 0
IsOpen OpenNot = ⊤
IsOpen OpenParenthesis = ⊤
IsOpen (OpenAnd p) = IsCondition p
IsOpen (OpenOr p) = IsCondition p

abbrev AreOpen : List Open → Type 0
AreOpen [] = ⊤
AreOpen (part ∷ before) = IsOpen part × AreOpen before

abbrev IsPart : Field → Within → Type 0
IsPart field Begun = ⊤
IsPart field (From least) = IsOperand field least
IsPart field (Until least comparison) = IsOperand field least
IsPart field First = ⊤
IsPart field (Listed p) = IsCondition p
IsPart field (More p) = IsCondition p

abbrev IsStage : Stage → Type 0
IsStage Wanted = ⊤
IsStage (Compared field) = IsField field
IsStage (Against field comparison) = IsField field
IsStage (BytesCompared offset) = offset < 2 ^ 16
IsStage (AgainstBytes offset there) = offset < 2 ^ 16
IsStage (In field part) = IsField field × IsPart field part
IsStage (Whole p) = IsCondition p

abbrev IsState : State → Type 0
IsState s = IsStage s.stage × AreOpen s.before

settled_fits : (before : List Open) (p : Condition) → AreOpen before → IsCondition p → IsState (settled before p)
settled_fits [] p h c = (c, h)
settled_fits (OpenNot ∷ before) p h c = settled_fits before (Not p) h.1 c
settled_fits (OpenAnd first ∷ before) p h c = settled_fits before (And first p) h.1 (h.0, c)
settled_fits (OpenParenthesis ∷ before) p h c = (c, h)
settled_fits (OpenOr first ∷ before) p h c = (c, h)

or_condition : (before : List Open) (p : Condition) → AreOpen before → IsCondition p → IsCondition (with_or before p).0
or_condition [] p h c = c
or_condition (OpenNot ∷ before) p h c = c
or_condition (OpenAnd first ∷ before) p h c = c
or_condition (OpenParenthesis ∷ before) p h c = c
or_condition (OpenOr first ∷ before) p h c = (h.0, c)

or_before : (before : List Open) (p : Condition) → AreOpen before → AreOpen (with_or before p).1
or_before [] p h = h
or_before (OpenNot ∷ before) p h = h
or_before (OpenAnd first ∷ before) p h = h
or_before (OpenParenthesis ∷ before) p h = h
or_before (OpenOr first ∷ before) p h = h.1

closed_fits : (column : ℕ) (p : Condition) (before : List Open) → IsCondition p → AreOpen before → IfOk (closed column (p, before)) IsState
closed_fits column p [] c h = tt
closed_fits column p (OpenNot ∷ before) c h = tt
closed_fits column p (OpenAnd first ∷ before) c h = tt
closed_fits column p (OpenParenthesis ∷ before) c h = settled_fits before p h.1 c
closed_fits column p (OpenOr first ∷ before) c h = tt

all_fits : (column : ℕ) (p : Condition) (before : List Open) → IsCondition p → IfOk (all_of column (p, before)) IsCondition
all_fits column p [] c = c
all_fits column p (part ∷ before) c = tt

listed_fits : (column : ℕ) (word : List ℕ) (field : Field) (p : Condition) (before : List Open) → IsField field → IsCondition p → AreOpen before → IfOk (listed column word field p before) IsState
unfolding listed
listed_fits column word field p before s c h =
    let rest = cond (bytes_eq word (codes "}")) (Ok (settled before p)) (refused column kinds.Element) in
    chosen IsState (bytes_eq word (codes ",")) (Ok (in_state field (More p) before)) rest (λ e. ((s, c), h))
    (λ e. chosen IsState (bytes_eq word (codes "}")) (Ok (settled before p)) (refused column kinds.Element) (λ f. settled_fits before p h c) (λ f. tt))

compared_step_fits : (column : ℕ) (word : List ℕ) (field : Field) (before : List Open) → IsField field → AreOpen before → IfOk (compared column word field before) IsState
unfolding compared
compared_step_fits column word field before s h =
    let other = at column (comparison_of word) >>= λ comparison. Ok (record { stage = Against field comparison; before = before }) in
    chosen IsState (bytes_eq word (codes "in")) (Ok (in_state field Begun before)) other (λ e. ((s, tt), h))
    (λ e. after_any IsState (at column (comparison_of word)) (λ comparison. Ok (record { stage = Against field comparison; before = before })) (λ comparison. (s, h)))

joined_fits : (column : ℕ) (word : List ℕ) (p : Condition) (before : List Open) → AreOpen before → IsCondition p → IfOk (joined column word p before) IsState
unfolding joined
joined_fits column word p before h c =
    let or = Ok (record { stage = Wanted; before = OpenOr (with_or before p).0 ∷ (with_or before p).1 }) in
    let rest = cond (bytes_eq word (codes ")")) (closed column (with_or before p)) (refused column kinds.Joint) in
    chosen IsState (bytes_eq word (codes "&&")) (Ok (record { stage = Wanted; before = OpenAnd p ∷ before })) (cond (bytes_eq word (codes "||")) or rest) (λ e. (tt, (c, h)))
    (λ e. chosen IsState (bytes_eq word (codes "||")) or rest (λ f. (tt, (or_condition before p h c, or_before before p h)))
    (λ f. chosen IsState (bytes_eq word (codes ")")) (closed column (with_or before p)) (refused column kinds.Joint)
    (λ g. closed_fits column (with_or before p).0 (with_or before p).1 (or_condition before p h c) (or_before before p h)) (λ g. tt)))

finished_fits : (column : ℕ) (stage : Stage) (before : List Open) → IsStage stage → AreOpen before → IfOk (finished column stage before) IsCondition
finished_fits column Wanted before s h = tt
finished_fits column (Compared field) before s h = tt
finished_fits column (Against field comparison) before s h = tt
finished_fits column (BytesCompared offset) before s h = tt
finished_fits column (AgainstBytes offset there) before s h = tt
finished_fits column (In field part) before s h = tt
finished_fits column (Whole p) before s h = all_fits column (with_or before p).0 (with_or before p).1 (or_condition before p h s)

-- ---- words

abbrev IsCut : Cut → Type 0
IsCut c = IsBytes c.word

cuts_after_fit : (skip : ℕ) (text : List ℕ) → IsBytes text → AllByRecursion IsCut (cuts_after skip text)
cuts_after_fit zero [] small = tt
cuts_after_fit (suc skip) [] small = tt
cuts_after_fit zero (b ∷ bs) small = (bytes_taken (width (b ∷ bs)) (b ∷ bs) small, cuts_after_fit (width (b ∷ bs) - 1) bs (rest_bytes b bs small))
cuts_after_fit (suc skip) (b ∷ bs) small = cuts_after_fit skip bs (rest_bytes b bs small)

cuts_fit : (text : List ℕ) → IsBytes text → AllByRecursion IsCut (cuts text)
unfolding cuts
cuts_fit text small = cuts_after_fit 0 text small

module _ (layout : List (List ℕ × Field)) (fits : IsLayout layout) where
  field_in_fits : (word : List ℕ) (o : Option (List ℕ × List ℕ)) → IfOk (field_in layout word o) IsField
  field_in_fits word (Some parts) = typed_fits parts.0 parts.1
  field_in_fits word None = named_fits (field_named layout word) (fits word)

  field_fits : (word : List ℕ) → IfOk (field_of layout word) IsField
  field_fits word = field_in_fits word (cut_at 64 word)

  operand_fits : (against : Field) (word : List ℕ) → IfOk (operand_of layout against word) (IsOperand against)
  operand_fits against word =
      let named = cond (is_word_byte (get_or word 0 0)) (field_of layout word >>= field_for against) (Err kinds.Operand) in
      chosen (IsOperand against) (begins_number word) (literal_of word >>= number_for against) (cond (bytes_eq word (codes "arg")) (Ok operands.Argument) named)
      (λ e. after_any (IsOperand against) (literal_of word) (number_for against) (number_fits against))
      (λ e. chosen (IsOperand against) (bytes_eq word (codes "arg")) (Ok operands.Argument) named (λ f. tt)
      (λ f. chosen (IsOperand against) (is_word_byte (get_or word 0 0)) (field_of layout word >>= field_for against) (Err kinds.Operand)
      (λ g. chained IsField (IsOperand against) (field_of layout word) (field_for against) (field_fits word) (field_for_fits against)) (λ g. tt)))

  compared_fits : (word : List ℕ) → IfOk (field_of layout word >>= λ field. Ok (Compared field)) IsStage
  compared_fits word = chained IsField IsStage (field_of layout word) (λ field. Ok (Compared field)) (field_fits word) (λ field small. small)

  subject_in_fits : (word : List ℕ) (o : Option (List ℕ × List ℕ)) → IfOk (subject_in layout word o) IsStage
  subject_in_fits word None = compared_fits word
  subject_in_fits word (Some parts) =
      chosen IsStage (bytes_eq parts.0 (codes "bytes")) (offset_of parts.1 >>= λ offset. Ok (BytesCompared offset)) (field_of layout word >>= λ field. Ok (Compared field))
      (λ e. chained (λ (n : ℕ). n < 2 ^ 16) IsStage (offset_of parts.1) (λ offset. Ok (BytesCompared offset)) (offset_fits (decimal_of parts.1)) (λ offset small. small)) (λ e. compared_fits word)

  subject_fits : (word : List ℕ) → IfOk (subject_of layout word) IsStage
  subject_fits word =
      let other = cond (is_word_byte (get_or word 0 0)) (subject_in layout word (cut_at 64 word)) (Err kinds.Condition) in
      chosen IsStage (begins_number word || bytes_eq word (codes "arg")) (Err kinds.Left) other (λ e. tt)
      (λ e. chosen IsStage (is_word_byte (get_or word 0 0)) (subject_in layout word (cut_at 64 word)) (Err kinds.Condition) (λ f. subject_in_fits word (cut_at 64 word)) (λ f. tt))

  wanted_fits : (column : ℕ) (word : List ℕ) (before : List Open) → AreOpen before → IfOk (wanted layout column word before) IsState
  unfolding wanted
  wanted_fits column word before h =
      let subject = at column (subject_of layout word) >>= λ stage. Ok (record { stage = stage; before = before }) in
      let other = cond (bytes_eq word (codes "(")) (Ok (record { stage = Wanted; before = OpenParenthesis ∷ before })) subject in
      chosen IsState (bytes_eq word (codes "!")) (Ok (record { stage = Wanted; before = OpenNot ∷ before })) other (λ e. (tt, (tt, h)))
      (λ e. chosen IsState (bytes_eq word (codes "(")) (Ok (record { stage = Wanted; before = OpenParenthesis ∷ before })) subject (λ f. (tt, (tt, h)))
      (λ f. chained IsStage IsState (at column (subject_of layout word)) (λ stage. Ok (record { stage = stage; before = before })) (placed IsStage column (subject_of layout word) (subject_fits word)) (λ stage s. (s, h))))

  -- an operand, and what it makes
  operand_makes : (column : ℕ) (word : List ℕ) (field : Field) (make : Operand → State) → ((o : Operand) → IsOperand field o → IsState (make o))
      → IfOk (at column (operand_of layout field word) >>= λ o. Ok (make o)) IsState
  operand_makes column word field make f =
      chained (IsOperand field) IsState (at column (operand_of layout field word)) (λ o. Ok (make o)) (placed (IsOperand field) column (operand_of layout field word) (operand_fits field word)) f

  begun_fits : (column : ℕ) (word : List ℕ) (field : Field) (before : List Open) → IsField field → AreOpen before → IfOk (begun layout column word field before) IsState
  unfolding begun bounded
  begun_fits column word field before s h =
      chosen IsState (bytes_eq word (codes "{")) (Ok (in_state field First before)) (at column (operand_of layout field word) >>= λ least. Ok (in_state field (From least) before)) (λ e. ((s, tt), h))
      (λ e. operand_makes column word field (λ least. in_state field (From least) before) (λ o fits. ((s, fits), h)))

  within_fits : (column : ℕ) (word : List ℕ) (field : Field) (part : Within) (before : List Open) → IsField field → IsPart field part → AreOpen before
      → IfOk (next_within layout column word field part before) IsState
  unfolding next_within
  within_fits column word field Begun before s p h = begun_fits column word field before s h
  within_fits column word field (From least) before s p h =
      after_any IsState (at column (bound_of word)) (λ comparison. Ok (in_state field (Until least comparison) before)) (λ comparison. ((s, p), h))
  within_fits column word field (Until least comparison) before s p h =
      operand_makes column word field (λ bound. settled before (range_condition field least comparison bound))
      (λ o fits. settled_fits before (range_condition field least comparison o) h ((s, p), (s, fits)))
  within_fits column word field First before s p h = operand_makes column word field (λ o. in_state field (Listed (one_condition field o)) before) (λ o fits. ((s, (s, fits)), h))
  within_fits column word field (Listed c) before s p h = listed_fits column word field c before s p h
  within_fits column word field (More c) before s p h =
      operand_makes column word field (λ o. in_state field (Listed (more_condition c field o)) before) (λ o fits. ((s, (p, (s, fits))), h))

  text_fits_field : (column : ℕ) (field : Field) (word : List ℕ) → IsBytes word → IfOk (text_at column field word) AreBytes
  unfolding text_at
  text_fits_field column field word b =
      chained AreBytes AreBytes (at column (bytes_of word)) (λ bytes. at column (sized field bytes)) (placed AreBytes column (bytes_of word) (bytes_fit word b))
      (λ bytes are. placed AreBytes column (sized field bytes) (chosen AreBytes (eqb (length bytes) (size_of field.size)) (Ok bytes) (Err kinds.Length) (λ e. are) (λ e. tt)))

  text_against_fits : (column : ℕ) (word : List ℕ) (field : Field) (comparison : Comparison) (before : List Open) → IsBytes word → IsField field → AreOpen before
      → IfOk (text_against column word field comparison before) IsState
  unfolding text_against
  text_against_fits column word field comparison before b s h =
      after_any IsState (at column (is_equal comparison)) (λ there. text_at column field word >>= λ bytes. Ok (settled before (bytes_condition field.offset there bytes)))
      (λ there. chained AreBytes IsState (text_at column field word) (λ bytes. Ok (settled before (bytes_condition field.offset there bytes))) (text_fits_field column field word b)
      (λ bytes are. settled_fits before (bytes_condition field.offset there bytes) h (bytes_condition_fits field.offset there bytes (s, are))))

  against_fits : (column : ℕ) (word : List ℕ) (field : Field) (comparison : Comparison) (before : List Open) → IsBytes word → IsField field → AreOpen before
      → IfOk (against layout column word field comparison before) IsState
  unfolding against operand_against
  against_fits column word field comparison before b s h =
      chosen IsState (eqb (get_or word 0 0) 34) (text_against column word field comparison before) (operand_against layout column word field comparison before)
      (λ e. text_against_fits column word field comparison before b s h)
      (λ e. operand_makes column word field (λ operand. settled before (Compare field comparison operand)) (λ operand o. settled_fits before (Compare field comparison operand) h (s, o)))

  next_fits : (column : ℕ) (word : List ℕ) (stage : Stage) (before : List Open) → IsBytes word → IsStage stage → AreOpen before → IfOk (next layout column word stage before) IsState
  next_fits column word Wanted before b s h = wanted_fits column word before h
  next_fits column word (Compared field) before b s h = compared_step_fits column word field before s h
  next_fits column word (Against field comparison) before b s h = against_fits column word field comparison before b s h
  next_fits column word (BytesCompared offset) before b s h =
      after_any IsState (at column (is_there word)) (λ there. Ok (record { stage = AgainstBytes offset there; before = before })) (λ there. (s, h))
  next_fits column word (AgainstBytes offset there) before b s h =
      chained AreBytes IsState (at column (bytes_of word)) (λ bytes. Ok (settled before (bytes_condition offset there bytes)))
      (placed AreBytes column (bytes_of word) (bytes_fit word b)) (λ bytes are. settled_fits before (bytes_condition offset there bytes) h (bytes_condition_fits offset there bytes (s, are)))
  next_fits column word (In field part) before b s h = within_fits column word field part before s.0 s.1 h
  next_fits column word (Whole p) before b s h = joined_fits column word p before h s

  step_fits : (column : ℕ) (word : List ℕ) (s : State) → IsBytes word → IsState s → IfOk (step layout column word s) IsState
  step_fits column word s b h = chosen IsState (is_blank word) (Ok s) (next layout column word s.stage s.before) (λ e. h) (λ e. next_fits column word s.stage s.before b h.0 h.1)

  words_fit : (bytes : ℕ) (cs : List Cut) (s : State) → AllByRecursion IsCut cs → IsState s → IfOk (read_words layout bytes cs s) IsCondition
  words_fit bytes [] s b h = finished_fits (bytes + 1) s.stage s.before h.0 h.1
  words_fit bytes (c ∷ cs) s b h =
      chained IsState IsCondition (step layout (bytes - c.left + 1) c.word s) (λ after. read_words layout bytes cs after) (step_fits (bytes - c.left + 1) c.word s b.0 h) (λ after a. words_fit bytes cs after b.1 a)

  text_fits : (text : List ℕ) → IsBytes text → IfOk (condition_of layout text) IsCondition
  unfolding condition_of
  text_fits text small =
      chosen IsCondition (ltb MOST_BYTES (length text)) (refused 1 kinds.TooLong) (read_words layout (length text) (cuts text) at_start) (λ e. tt)
      (λ e. words_fit (length text) (cuts text) at_start (cuts_fit text small) (tt, tt))

pub read_fits : ReadIsCondition
read_fits layout text p fits small h = subst (λ r. IfOk r IsCondition) h (text_fits layout fits text small)
