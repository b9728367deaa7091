-- A condition that is printed is read again.
use Rattle.std.proofs.Common.{◌≡◌, ℕ, ◌<◌, ◌≤◌, ◌^◌, Bool, true, false, cond, eqb, List, [], ◌∷◌, ◌++◌, length, get_or, Some, Result, Ok, Err, refl, sym, ap, ◌∙◌, codes, append_assoc, arith}
use Rattle.std.specs.Fmt.{decimal}
use Rattle.std.specs.List.{list_all}
use Rattle.std.proofs.lemmas.Bool.{and_parts, le-ltb, ne_eqb}
use Rattle.std.proofs.lemmas.List.{append-nil}
use Rattle.hex.specs.Hex.{IsBytes, decode_of, encode_lower, lower_digits}
use Rattle.hex.proofs.HexLemmas.{decode_of-encode_lower, length-encode_with}
use Rattle.record_questions.specs.declared.question.Field.{Field}
use Rattle.record_questions.specs.declared.question.Sign.{Sign}
use Rattle.record_questions.specs.declared.question.Sign.TheVariants.{Unsigned, Signed}
use Rattle.record_questions.specs.declared.question.Comparison.{Comparison}
use Rattle.record_questions.specs.declared.question.Comparison.TheVariants.{Equal, NotEqual, Less, LessOrEqual, Greater, GreaterOrEqual}
use Rattle.record_questions.specs.declared.question.Operand.{Operand}
use Rattle.common_definitions.specs.Readings.{◌>>=◌}
use Rattle.text_lines.specs.Cut.{cut_at}
use Rattle.question_words.specs.declared.fault.FaultKind.{FaultKind}
use Rattle.question_words.specs.declared.fault.FaultKind.TheVariants as kinds
use Rattle.question_words.specs.declared.fault.WordFault.{WordFault}
use Rattle.question_words.specs.declared.reading.TheConstants.{MOST_BYTES}
use Rattle.question_words.specs.Condition.{Condition, Compare, Bytes, And, Or, Not}
use Rattle.question_words.specs.Cutting.{Cut, cuts, is_word_byte, width}
use Rattle.question_words.specs.Fault.{at, refused}
use Rattle.question_words.specs.Field.{field_of, field_text, shape_text, sign_letter}
use Rattle.question_words.specs.Laws.{IsCondition, IsField, IsOperand, NamesRead, OtherBytesRead, WordsReadBack, named_text}
use Rattle.question_words.specs.Layout.{field_named}
use Rattle.question_words.specs.LayoutText.{is_field_name}
use Rattle.question_words.specs.Operand.{comparison_text, operand_word}
use Rattle.question_words.specs.Printing.{bytes_text, condition_text, not_text, part_text}
use Rattle.question_words.specs.Reading.{Against, AgainstBytes, BytesCompared, OpenAnd, Compared, OpenOr, Open, OpenNot, OpenParenthesis, Stage, State, Wanted, Whole, against, at_start, bytes_condition, compared, condition_of, decoded, joined, next, operand_against, read_words, settled, step, subject_in, subject_of, text_against, wanted}
use Rattle.question_words.proofs.FirstWords.{cuts_none, cuts_word, word_width}
use Rattle.question_words.proofs.WordsAgain.{IsWord, cut_field, cut_name, cut_there, field_again, field_is_word, name_again, name_begins_comparison, name_is_word, no_blank, no_symbol, not_byte, offset_again, operand_again, operand_is_word, word_decimal, word_hex}

-- no word that names are made of begins with a quote
no_quote_first : (w : List ℕ) → IsWord w → eqb (get_or w 0 0) 34 ≡ false
no_quote_first [] word = absurd (omega (arith, word.some))
no_quote_first (b ∷ bs) word = not_byte b 34 (and_parts (is_word_byte b) (list_all is_word_byte bs) word.all).0 refl

module _ (layout : List (List ℕ × Field)) (bytes : ℕ) where
  -- what a text makes of what is read so far
  pub reading : List ℕ → State → Result Condition WordFault
  reading text s = read_words layout bytes (cuts text) s

  -- one word
  pub goes_on : (w r : List ℕ) (s after : State) → 0 < length w → width (w ++ r) ≡ length w → ((column : ℕ) → step layout column w s ≡ Ok after) → reading (w ++ r) s ≡ reading r after
  unfolding reading
  goes_on w r s after some wide h =
      ap (λ (cs : List Cut). read_words layout bytes cs s) (cuts_word w r some wide)
      ∙ ap (λ (x : Result State WordFault). x >>= λ next. read_words layout bytes (cuts r) next) (h _)

  -- a space
  pub blank : (r : List ℕ) (s : State) → reading (32 ∷ r) s ≡ reading r s
  blank r s = goes_on (32 ∷ []) r s s (omega arith) refl (λ column. refl)

  -- the text ends after a condition
  pub ends : (p : Condition) → reading [] (record { stage = Whole p; before = [] }) ≡ Ok p
  unfolding reading
  ends p = ap (λ (cs : List Cut). read_words layout bytes cs (record { stage = Whole p; before = [] })) cuts_none

  pub ends_or : (p q : Condition) → reading [] (record { stage = Whole q; before = OpenOr p ∷ [] }) ≡ Ok (Or p q)
  unfolding reading
  ends_or p q = ap (λ (cs : List Cut). read_words layout bytes cs (record { stage = Whole q; before = OpenOr p ∷ [] })) cuts_none

  -- ---- comparisons of fields

  pub not_blank : (column : ℕ) (w : List ℕ) (s : State) → IsWord w → step layout column w s ≡ next layout column w s.stage s.before
  not_blank column w s word = ap (λ (b : Bool). cond b (Ok s) (next layout column w s.stage s.before)) (no_blank w word.all word.some)

  word_wanted : (column : ℕ) (w : List ℕ) (before : List Open) → IsWord w
      → wanted layout column w before ≡ (at column (subject_of layout w) >>= λ stage. Ok (record { stage = stage; before = before }))
  unfolding wanted
  word_wanted column w before word = rw (no_symbol 33 w refl word.all, no_symbol 40 w refl word.all) refl

  subject_field : (word : List ℕ) (sign : Sign) (rest at : List ℕ) → subject_in layout word (Some (sign_letter sign ∷ rest, at)) ≡ (field_of layout word >>= λ field. Ok (Compared field))
  subject_field word Unsigned rest at = refl
  subject_field word Signed rest at = refl

  subject_letter : (sign : Sign) (rest : List ℕ) → subject_of layout (sign_letter sign ∷ rest) ≡ subject_in layout (sign_letter sign ∷ rest) (cut_at 64 (sign_letter sign ∷ rest))
  subject_letter Unsigned rest = refl
  subject_letter Signed rest = refl

  subject_again : (field : Field) → IsField field → subject_of layout (field_text field) ≡ Ok (Compared field)
  subject_again field small =
      subject_letter field.sign (shape_text field.size field.order ++ 64 ∷ decimal field.offset)
      ∙ ap (subject_in layout (field_text field)) (cut_field field)
      ∙ subject_field (field_text field) field.sign (shape_text field.size field.order) (decimal field.offset)
      ∙ ap (λ (r : Result Field FaultKind). r >>= λ other. Ok (Compared other)) (field_again layout field small)

  pub field_step : (field : Field) (before : List Open) → IsField field → (column : ℕ)
      → step layout column (field_text field) (record { stage = Wanted; before = before }) ≡ Ok (record { stage = Compared field; before = before })
  field_step field before small column =
      not_blank column (field_text field) (record { stage = Wanted; before = before }) (field_is_word field small)
      ∙ word_wanted column (field_text field) before (field_is_word field small)
      ∙ ap (λ (r : Result Stage FaultKind). at column r >>= λ stage. Ok (record { stage = stage; before = before })) (subject_again field small)

  comparison_step : (field : Field) (comparison : Comparison) (before : List Open) (column : ℕ)
      → step layout column (comparison_text comparison) (record { stage = Compared field; before = before }) ≡ Ok (record { stage = Against field comparison; before = before })
  unfolding compared
  comparison_step field Equal before column = refl
  comparison_step field NotEqual before column = refl
  comparison_step field Less before column = refl
  comparison_step field LessOrEqual before column = refl
  comparison_step field Greater before column = refl
  comparison_step field GreaterOrEqual before column = refl

  comparison_width : (comparison : Comparison) (r : List ℕ) → width (comparison_text comparison ++ 32 ∷ r) ≡ length (comparison_text comparison)
  comparison_width Equal r = refl
  comparison_width NotEqual r = refl
  comparison_width Less r = refl
  comparison_width LessOrEqual r = refl
  comparison_width Greater r = refl
  comparison_width GreaterOrEqual r = refl

  comparison_some : (comparison : Comparison) → 0 < length (comparison_text comparison)
  comparison_some Equal = omega arith
  comparison_some NotEqual = omega arith
  comparison_some Less = omega arith
  comparison_some LessOrEqual = omega arith
  comparison_some Greater = omega arith
  comparison_some GreaterOrEqual = omega arith

  operand_step : (field : Field) (comparison : Comparison) (operand : Operand) (before : List Open) → IsOperand field operand → (column : ℕ)
      → step layout column (operand_word operand) (record { stage = Against field comparison; before = before }) ≡ Ok (settled before (Compare field comparison operand))
  unfolding against operand_against
  operand_step field comparison operand before fits column =
      not_blank column (operand_word operand) (record { stage = Against field comparison; before = before }) (operand_is_word field operand fits)
      ∙ ap (λ (b : Bool). cond b (text_against column (operand_word operand) field comparison before) (operand_against layout column (operand_word operand) field comparison before)) (no_quote_first (operand_word operand) (operand_is_word field operand fits))
      ∙ ap (λ (r : Result Operand FaultKind). at column r >>= λ o. Ok (settled before (Compare field comparison o))) (operand_again layout field operand fits)

  compare_goes : (field : Field) (comparison : Comparison) (operand : Operand) → IsField field → IsOperand field operand → (r : List ℕ) → is_word_byte (get_or r 0 0) ≡ false → (before : List Open)
      → reading (field_text field ++ (32 ∷ (comparison_text comparison ++ (32 ∷ (operand_word operand ++ r))))) (record { stage = Wanted; before = before }) ≡ reading r (settled before (Compare field comparison operand))
  compare_goes field comparison operand small fits r end before =
      let word = field_is_word field small in
      let last = operand_is_word field operand fits in
      goes_on (field_text field) (32 ∷ (comparison_text comparison ++ (32 ∷ (operand_word operand ++ r)))) _ _ word.some (word_width (field_text field) _ word.all word.some refl) (field_step field before small)
      ∙ blank _ _
      ∙ goes_on (comparison_text comparison) (32 ∷ (operand_word operand ++ r)) _ _ (comparison_some comparison) (comparison_width comparison _) (comparison_step field comparison before)
      ∙ blank _ _
      ∙ goes_on (operand_word operand) r _ _ last.some (word_width (operand_word operand) r last.all last.some end) (operand_step field comparison operand before fits)

  -- ---- bytes

  pub bytes_word : (offset : ℕ) → offset < 2 ^ 16 → IsWord (codes "bytes@" ++ decimal offset)
  bytes_word offset small = record { all = word_decimal offset (omega arith); some = omega arith }

  bytes_subject : (offset : ℕ) → offset < 2 ^ 16 → subject_of layout (codes "bytes@" ++ decimal offset) ≡ Ok (BytesCompared offset)
  bytes_subject offset small =
      ap (subject_in layout (codes "bytes@" ++ decimal offset)) (cut_there (codes "bytes") 64 (decimal offset) refl refl)
      ∙ ap (λ (r : Result ℕ FaultKind). r >>= λ o. Ok (BytesCompared o)) (offset_again offset small)

  pub bytes_step : (offset : ℕ) (before : List Open) → offset < 2 ^ 16 → (column : ℕ)
      → step layout column (codes "bytes@" ++ decimal offset) (record { stage = Wanted; before = before }) ≡ Ok (record { stage = BytesCompared offset; before = before })
  bytes_step offset before small column =
      not_blank column (codes "bytes@" ++ decimal offset) (record { stage = Wanted; before = before }) (bytes_word offset small)
      ∙ word_wanted column (codes "bytes@" ++ decimal offset) before (bytes_word offset small)
      ∙ ap (λ (r : Result Stage FaultKind). at column r >>= λ stage. Ok (record { stage = stage; before = before })) (bytes_subject offset small)

  some_digits : (bs : List ℕ) → 0 < length bs → eqb (length (encode_lower bs)) 0 ≡ false
  some_digits bs some = let twice = length-encode_with lower_digits bs in ne_eqb (length (encode_lower bs)) 0 (omega (arith, twice, some))

  digits_step : (offset : ℕ) (there : Bool) (bs : List ℕ) (before : List Open) → IsBytes bs → 0 < length bs → (column : ℕ)
      → step layout column (codes "0x" ++ encode_lower bs) (record { stage = AgainstBytes offset there; before = before }) ≡ Ok (settled before (bytes_condition offset there bs))
  digits_step offset there bs before small some column =
      ap (λ (b : Bool). at column (cond b (Err kinds.Bytes) (decoded (decode_of (encode_lower bs)))) >>= λ found. Ok (settled before (bytes_condition offset there found))) (some_digits bs some)
      ∙ ap (λ r. at column (decoded r) >>= λ found. Ok (settled before (bytes_condition offset there found))) (decode_of-encode_lower bs small)

  -- `==` where the bytes are to be there, else `!=`
  unfoldable pub there_text : Bool → List ℕ
  there_text true = codes "=="
  there_text false = codes "!="

  pub there_some : (there : Bool) → 0 < length (there_text there)
  unfolding there_text
  there_some true = omega arith
  there_some false = omega arith

  pub there_width : (there : Bool) (r : List ℕ) → width (there_text there ++ 32 ∷ r) ≡ length (there_text there)
  unfolding there_text
  there_width true r = refl
  there_width false r = refl

  pub there_step : (offset : ℕ) (there : Bool) (before : List Open) (column : ℕ)
      → step layout column (there_text there) (record { stage = BytesCompared offset; before = before }) ≡ Ok (record { stage = AgainstBytes offset there; before = before })
  unfolding there_text
  there_step offset true before column = refl
  there_step offset false before column = refl

  -- bytes, and the text after them
  bytes_shown : ℕ → Bool → List ℕ → List ℕ → List ℕ
  bytes_shown offset there bs r = (codes "bytes@" ++ decimal offset) ++ (32 ∷ (there_text there ++ (32 ∷ ((codes "0x" ++ encode_lower bs) ++ r))))

  bytes_goes : (offset : ℕ) (there : Bool) (bs : List ℕ) → offset < 2 ^ 16 → IsBytes bs → 0 < length bs → (r : List ℕ) → is_word_byte (get_or r 0 0) ≡ false → (before : List Open)
      → reading (bytes_shown offset there bs r) (record { stage = Wanted; before = before }) ≡ reading r (settled before (bytes_condition offset there bs))
  unfolding bytes_shown
  bytes_goes offset there bs small each some r end before =
      let word = bytes_word offset small in
      goes_on (codes "bytes@" ++ decimal offset) (32 ∷ (there_text there ++ (32 ∷ ((codes "0x" ++ encode_lower bs) ++ r)))) _ _ word.some (word_width (codes "bytes@" ++ decimal offset) _ word.all word.some refl) (bytes_step offset before small)
      ∙ blank _ _
      ∙ goes_on (there_text there) (32 ∷ ((codes "0x" ++ encode_lower bs) ++ r)) _ _ (there_some there) (there_width there _) (there_step offset there before)
      ∙ blank _ _
      ∙ goes_on (codes "0x" ++ encode_lower bs) r _ _ (omega arith) (word_width (codes "0x" ++ encode_lower bs) r (word_hex bs each) (omega arith) end) (digits_step offset there bs before each some)

  -- ---- conditions

  -- the opposite of a condition, and the text after it: of the condition and that text, or of the condition and a `)` before that text
  not_shown : Condition → List ℕ → List ℕ → List ℕ → List ℕ
  not_shown (Bytes offset bs) own closed r = bytes_shown offset false bs r
  not_shown (Compare field comparison operand) own closed r = 33 ∷ 40 ∷ closed
  not_shown (Not p) own closed r = 33 ∷ 40 ∷ closed
  not_shown (And p q) own closed r = 33 ∷ own
  not_shown (Or p q) own closed r = 33 ∷ own

  not_first : (p : Condition) (own closed r : List ℕ) → eqb (get_or (not_shown p own closed r) 0 0) 61 ≡ false
  unfolding not_shown bytes_shown
  not_first (Bytes offset bs) own closed r = refl
  not_first (Compare field comparison operand) own closed r = refl
  not_first (Not p) own closed r = refl
  not_first (And p q) own closed r = refl
  not_first (Or p q) own closed r = refl

  -- a condition inside another, and the text after it
  pub shown : Condition → List ℕ → List ℕ
  shown (Compare field comparison operand) r = field_text field ++ (32 ∷ (comparison_text comparison ++ (32 ∷ (operand_word operand ++ r))))
  shown (Bytes offset bs) r = bytes_shown offset true bs r
  shown (And p q) r = 40 ∷ shown p (codes " && " ++ shown q (41 ∷ r))
  shown (Or p q) r = 40 ∷ shown p (codes " || " ++ shown q (41 ∷ r))
  shown (Not p) r = not_shown p (shown p r) (shown p (41 ∷ r)) r

  no_equals : (sign : Sign) → eqb (sign_letter sign) 61 ≡ false
  no_equals Unsigned = refl
  no_equals Signed = refl

  -- after a `!` no `=` is first
  pub first_shown : (p : Condition) (r : List ℕ) → eqb (get_or (shown p r) 0 0) 61 ≡ false
  unfolding shown bytes_shown
  first_shown (Compare field comparison operand) r = no_equals field.sign
  first_shown (Bytes offset bs) r = refl
  first_shown (And p q) r = refl
  first_shown (Or p q) r = refl
  first_shown (Not p) r = not_first p (shown p r) (shown p (41 ∷ r)) r

  -- a `!` before parentheses, where what is between them is read
  not_goes : (p : Condition) (t r : List ℕ) (before : List Open)
      → reading t (record { stage = Wanted; before = OpenParenthesis ∷ OpenNot ∷ before }) ≡ reading (41 ∷ r) (record { stage = Whole p; before = OpenParenthesis ∷ OpenNot ∷ before })
      → reading (33 ∷ 40 ∷ t) (record { stage = Wanted; before = before }) ≡ reading r (settled before (Not p))
  unfolding wanted joined
  not_goes p t r before inside =
      goes_on (33 ∷ []) (40 ∷ t) _ _ (omega arith) refl (λ column. refl)
      ∙ goes_on (40 ∷ []) t _ _ (omega arith) refl (λ column. refl)
      ∙ inside
      ∙ goes_on (41 ∷ []) r _ _ (omega arith) refl (λ column. refl)

  opposite_goes : (p : Condition) → IsCondition p → (r : List ℕ) → is_word_byte (get_or r 0 0) ≡ false → (before : List Open)
      → reading (shown p r) (record { stage = Wanted; before = OpenNot ∷ before }) ≡ reading r (settled before (Not p))
      → reading (shown p (41 ∷ r)) (record { stage = Wanted; before = OpenParenthesis ∷ OpenNot ∷ before }) ≡ reading (41 ∷ r) (record { stage = Whole p; before = OpenParenthesis ∷ OpenNot ∷ before })
      → reading (not_shown p (shown p r) (shown p (41 ∷ r)) r) (record { stage = Wanted; before = before }) ≡ reading r (settled before (Not p))
  unfolding not_shown wanted
  opposite_goes (Bytes offset bs) fits r end before own closed = bytes_goes offset false bs fits.0 fits.1.0 fits.1.1 r end before
  opposite_goes (Compare field comparison operand) fits r end before own closed =
      not_goes (Compare field comparison operand) (shown (Compare field comparison operand) (41 ∷ r)) r before closed
  opposite_goes (Not p) fits r end before own closed = not_goes (Not p) (shown (Not p) (41 ∷ r)) r before closed
  opposite_goes (And p q) fits r end before own closed =
      goes_on (33 ∷ []) (shown (And p q) r) _ _ (omega arith) (ap (λ (b : Bool). cond b 2 1) (first_shown (And p q) r)) (λ column. refl) ∙ own
  opposite_goes (Or p q) fits r end before own closed =
      goes_on (33 ∷ []) (shown (Or p q) r) _ _ (omega arith) (ap (λ (b : Bool). cond b 2 1) (first_shown (Or p q) r)) (λ column. refl) ∙ own

  pub shown_goes : (p : Condition) → IsCondition p → (r : List ℕ) → is_word_byte (get_or r 0 0) ≡ false → (before : List Open)
      → reading (shown p r) (record { stage = Wanted; before = before }) ≡ reading r (settled before p)
  unfolding shown wanted joined
  shown_goes (Compare field comparison operand) fits r end before = compare_goes field comparison operand fits.0 fits.1 r end before
  shown_goes (Bytes offset bs) fits r end before = bytes_goes offset true bs fits.0 fits.1.0 fits.1.1 r end before
  shown_goes (And p q) fits r end before =
      goes_on (40 ∷ []) (shown p (codes " && " ++ shown q (41 ∷ r))) _ _ (omega arith) refl (λ column. refl)
      ∙ shown_goes p fits.0 (codes " && " ++ shown q (41 ∷ r)) refl (OpenParenthesis ∷ before)
      ∙ blank _ _
      ∙ goes_on (codes "&&") (32 ∷ shown q (41 ∷ r)) _ _ (omega arith) refl (λ column. refl)
      ∙ blank _ _
      ∙ shown_goes q fits.1 (41 ∷ r) refl (OpenAnd p ∷ OpenParenthesis ∷ before)
      ∙ goes_on (41 ∷ []) r _ _ (omega arith) refl (λ column. refl)
  shown_goes (Or p q) fits r end before =
      goes_on (40 ∷ []) (shown p (codes " || " ++ shown q (41 ∷ r))) _ _ (omega arith) refl (λ column. refl)
      ∙ shown_goes p fits.0 (codes " || " ++ shown q (41 ∷ r)) refl (OpenParenthesis ∷ before)
      ∙ blank _ _
      ∙ goes_on (codes "||") (32 ∷ shown q (41 ∷ r)) _ _ (omega arith) refl (λ column. refl)
      ∙ blank _ _
      ∙ shown_goes q fits.1 (41 ∷ r) refl (OpenOr p ∷ OpenParenthesis ∷ before)
      ∙ goes_on (41 ∷ []) r _ _ (omega arith) refl (λ column. refl)
  shown_goes (Not p) fits r end before =
      opposite_goes p fits r end before (shown_goes p fits r end (OpenNot ∷ before)) (shown_goes p fits (41 ∷ r) refl (OpenParenthesis ∷ OpenNot ∷ before))

  -- ---- the text

  not_part : (p : Condition) (r : List ℕ) → part_text p ++ r ≡ shown p r → part_text p ++ 41 ∷ r ≡ shown p (41 ∷ r)
      → not_text p (part_text p) ++ r ≡ not_shown p (shown p r) (shown p (41 ∷ r)) r
  unfolding not_shown bytes_shown there_text
  not_part (Bytes offset bs) r own closed = simp append_assoc
  not_part (Compare field comparison operand) r own closed =
      ap (λ (t : List ℕ). 33 ∷ 40 ∷ t) (append_assoc (part_text (Compare field comparison operand)) (codes ")") r ∙ closed)
  not_part (Not p) r own closed = ap (λ (t : List ℕ). 33 ∷ 40 ∷ t) (append_assoc (part_text (Not p)) (codes ")") r ∙ closed)
  not_part (And p q) r own closed = ap (λ (t : List ℕ). 33 ∷ t) own
  not_part (Or p q) r own closed = ap (λ (t : List ℕ). 33 ∷ t) own

  pub part_shown : (p : Condition) (r : List ℕ) → part_text p ++ r ≡ shown p r
  unfolding shown bytes_shown there_text
  part_shown (Compare field comparison operand) r = simp append_assoc
  part_shown (Bytes offset bs) r = simp append_assoc
  part_shown (And p q) r =
      ap (λ (t : List ℕ). 40 ∷ t)
      (append_assoc (part_text p) (codes " && " ++ (part_text q ++ codes ")")) r
      ∙ part_shown p (codes " && " ++ ((part_text q ++ codes ")") ++ r))
      ∙ ap (λ (t : List ℕ). shown p (codes " && " ++ t)) (append_assoc (part_text q) (codes ")") r ∙ part_shown q (41 ∷ r)))
  part_shown (Or p q) r =
      ap (λ (t : List ℕ). 40 ∷ t)
      (append_assoc (part_text p) (codes " || " ++ (part_text q ++ codes ")")) r
      ∙ part_shown p (codes " || " ++ ((part_text q ++ codes ")") ++ r))
      ∙ ap (λ (t : List ℕ). shown p (codes " || " ++ t)) (append_assoc (part_text q) (codes ")") r ∙ part_shown q (41 ∷ r)))
  part_shown (Not p) r = not_part p r (part_shown p r) (part_shown p (41 ∷ r))

  -- a condition that nothing is around
  part_again : (p : Condition) → IsCondition p → settled [] p ≡ record { stage = Whole p; before = [] } → reading (part_text p) at_start ≡ Ok p
  part_again p fits whole =
      ap (λ (t : List ℕ). reading t at_start) (sym (append-nil (part_text p)) ∙ part_shown p [])
      ∙ shown_goes p fits [] refl [] ∙ ends p

  text_again : (p : Condition) → IsCondition p → reading (condition_text p) at_start ≡ Ok p
  unfolding shown wanted joined
  text_again (Compare field comparison operand) fits = part_again (Compare field comparison operand) fits refl
  text_again (Bytes offset bs) fits = part_again (Bytes offset bs) fits refl
  text_again (Not p) fits = part_again (Not p) fits refl
  text_again (And p q) fits =
      ap (λ (t : List ℕ). reading t at_start) (part_shown p (codes " && " ++ part_text q) ∙ ap (λ (t : List ℕ). shown p (codes " && " ++ t)) (sym (append-nil (part_text q)) ∙ part_shown q []))
      ∙ shown_goes p fits.0 (codes " && " ++ shown q []) refl []
      ∙ blank _ _
      ∙ goes_on (codes "&&") (32 ∷ shown q []) _ _ (omega arith) refl (λ column. refl)
      ∙ blank _ _
      ∙ shown_goes q fits.1 [] refl (OpenAnd p ∷ [])
      ∙ ends (And p q)
  text_again (Or p q) fits =
      ap (λ (t : List ℕ). reading t at_start) (part_shown p (codes " || " ++ part_text q) ∙ ap (λ (t : List ℕ). shown p (codes " || " ++ t)) (sym (append-nil (part_text q)) ∙ part_shown q []))
      ∙ shown_goes p fits.0 (codes " || " ++ shown q []) refl []
      ∙ blank _ _
      ∙ goes_on (codes "||") (32 ∷ shown q []) _ _ (omega arith) refl (λ column. refl)
      ∙ blank _ _
      ∙ shown_goes q fits.1 [] refl (OpenOr p ∷ [])
      ∙ ends_or p q

  -- ---- bytes by `!=`

  other_bytes_shown : (offset : ℕ) (bs : List ℕ) → bytes_text offset (codes " != 0x") bs ≡ bytes_shown offset false bs []
  unfolding bytes_shown there_text
  other_bytes_shown offset bs = sym (append-nil (bytes_text offset (codes " != 0x") bs)) ∙ simp append_assoc

  first_of_word : (w : List ℕ) → IsWord w → is_word_byte (get_or w 0 0) ≡ true
  first_of_word [] word = absurd (omega (arith, word.some))
  first_of_word (b ∷ bs) word = (and_parts (is_word_byte b) (list_all is_word_byte bs) word.all).0

  other_bytes_again : (offset : ℕ) (bs : List ℕ) → IsCondition (Bytes offset bs) → reading (bytes_text offset (codes " != 0x") bs) at_start ≡ Ok (Not (Bytes offset bs))
  other_bytes_again offset bs fits =
      ap (λ (t : List ℕ). reading t at_start) (other_bytes_shown offset bs)
      ∙ bytes_goes offset false bs fits.0 fits.1.0 fits.1.1 [] refl [] ∙ ends (Not (Bytes offset bs))

  -- ---- names

  subject_name : (name : List ℕ) (field : Field) → is_field_name name ≡ true → field_named layout name ≡ Some field → subject_of layout name ≡ Ok (Compared field)
  subject_name name field h found =
      ap (λ (b : Bool). cond b (Err kinds.Left) (cond (is_word_byte (get_or name 0 0)) (subject_in layout name (cut_at 64 name)) (Err kinds.Condition))) (name_begins_comparison name h)
      ∙ ap (λ (b : Bool). cond b (subject_in layout name (cut_at 64 name)) (Err kinds.Condition)) (first_of_word name (name_is_word name h))
      ∙ ap (subject_in layout name) (cut_name name h)
      ∙ ap (λ (r : Result Field FaultKind). r >>= λ other. Ok (Compared other)) (name_again layout name field h found)

  pub name_step : (name : List ℕ) (field : Field) → is_field_name name ≡ true → field_named layout name ≡ Some field → (column : ℕ)
      → step layout column name at_start ≡ Ok (record { stage = Compared field; before = [] })
  name_step name field h found column =
      not_blank column name at_start (name_is_word name h)
      ∙ word_wanted column name [] (name_is_word name h)
      ∙ ap (λ (r : Result Stage FaultKind). at column r >>= λ stage. Ok (record { stage = stage; before = [] })) (subject_name name field h found)

  named_goes : (name : List ℕ) (field : Field) (comparison : Comparison) (operand : Operand) → is_field_name name ≡ true → field_named layout name ≡ Some field → IsOperand field operand
      → reading (name ++ (32 ∷ (comparison_text comparison ++ (32 ∷ (operand_word operand ++ []))))) at_start ≡ Ok (Compare field comparison operand)
  named_goes name field comparison operand h found fits =
      let word = name_is_word name h in
      let last = operand_is_word field operand fits in
      goes_on name (32 ∷ (comparison_text comparison ++ (32 ∷ (operand_word operand ++ [])))) _ _ word.some (word_width name _ word.all word.some refl) (name_step name field h found)
      ∙ blank _ _
      ∙ goes_on (comparison_text comparison) (32 ∷ (operand_word operand ++ [])) _ _ (comparison_some comparison) (comparison_width comparison _) (comparison_step field comparison [])
      ∙ blank _ _
      ∙ goes_on (operand_word operand) [] _ _ last.some (word_width (operand_word operand) [] last.all last.some refl) (operand_step field comparison operand [] fits)
      ∙ ends (Compare field comparison operand)

  named_again : (name : List ℕ) (field : Field) (comparison : Comparison) (operand : Operand) → is_field_name name ≡ true → field_named layout name ≡ Some field → IsOperand field operand
      → reading (named_text name comparison operand) at_start ≡ Ok (Compare field comparison operand)
  named_again name field comparison operand h found fits =
      ap (λ (t : List ℕ). reading (name ++ (32 ∷ (comparison_text comparison ++ (32 ∷ t)))) at_start) (sym (append-nil (operand_word operand)))
      ∙ named_goes name field comparison operand h found fits

-- a text that isn't too long is read
pub within : (layout : List (List ℕ × Field)) (text : List ℕ) (p : Condition) → reading layout (length text) text at_start ≡ Ok p → length text ≤ MOST_BYTES → condition_of layout text ≡ Ok p
unfolding condition_of reading
within layout text p again few =
    ap (λ (b : Bool). cond b (refused 1 kinds.TooLong) (read_words layout (length text) (cuts text) at_start)) (le-ltb MOST_BYTES (length text) few) ∙ again

pub words_again : WordsReadBack
words_again p fits layout = within layout (condition_text p) p (text_again layout (length (condition_text p)) p fits)

pub other_bytes : OtherBytesRead
other_bytes offset bs fits layout = within layout _ _ (other_bytes_again layout _ offset bs fits)

pub names_again : NamesRead
names_again layout name field comparison operand h found fits = within layout _ _ (named_again layout _ name field comparison operand h found fits)
