-- Ranges and sets are read as what they are short for.
use Rattle.std.proofs.Common.{◌≡◌, ℕ, ◌<◌, Bool, false, cond, eqb, List, [], ◌∷◌, ◌++◌, length, get_or, Result, Ok, inl, inr, refl, sym, subst, ap, ◌∙◌, codes, arith}
use Rattle.std.specs.List.{AllByRecursion, list_all}
use Rattle.std.proofs.lemmas.Bool.{and_parts}
use Rattle.std.proofs.lemmas.List.{append-nil}
use Rattle.record_questions.specs.declared.question.Field.{Field}
use Rattle.record_questions.specs.declared.question.Comparison.{Comparison}
use Rattle.record_questions.specs.declared.question.Comparison.TheVariants.{Equal, Less, LessOrEqual}
use Rattle.record_questions.specs.declared.question.Operand.{Operand}
use Rattle.common_definitions.specs.Readings.{◌>>=◌}
use Rattle.question_words.specs.declared.fault.FaultKind.{FaultKind}
use Rattle.question_words.specs.Condition.{Condition, Compare}
use Rattle.question_words.specs.Cutting.{is_word_byte, width}
use Rattle.question_words.specs.Fault.{at}
use Rattle.question_words.specs.Laws.{IsOperand, RangesRead, Says, SetsRead, either_of, range_text, rest_text, set_text}
use Rattle.question_words.specs.Operand.{operand_of, operand_word}
use Rattle.question_words.specs.Reading.{Compared, at_start, begun, bounded, compared, in_state, listed, next_within, settled, step}
use Rattle.question_words.specs.Within.{Begun, First, From, Listed, More, Until, more_condition, one_condition, range_condition}
use Rattle.question_words.proofs.FirstWords.{word_width}
use Rattle.question_words.proofs.ReadBack.{blank, ends, field_step, goes_on, name_step, not_blank, reading, within}
use Rattle.question_words.proofs.WordsAgain.{IsWord, field_is_word, name_is_word, no_symbol, not_byte, operand_again, operand_is_word}

-- no word begins with `=`
no_equals_first : (w r : List ℕ) → IsWord w → eqb (get_or (w ++ r) 0 0) 61 ≡ false
no_equals_first [] r word = absurd (omega (arith, word.some))
no_equals_first (b ∷ bs) r word = not_byte b 61 (and_parts (is_word_byte b) (list_all is_word_byte bs) word.all).0 refl

-- `..` before a word
dots_width : (w r : List ℕ) → IsWord w → width (codes ".." ++ (w ++ r)) ≡ 2
dots_width w r word = ap (λ (b : Bool). cond b 3 2) (no_equals_first w r word)

-- after an element no word goes on
rest_first : (os : List Operand) → is_word_byte (get_or (rest_text os) 0 0) ≡ false
rest_first [] = refl
rest_first (o ∷ os) = refl

module _ (layout : List (List ℕ × Field)) (bytes : ℕ) where
  pub says_word : (word : List ℕ) (field : Field) → Says layout word field → IsWord word
  says_word word field (inl (small, e)) = subst IsWord (sym e) (field_is_word field small)
  says_word word field (inr (h, found)) = name_is_word word h

  pub says_step : (word : List ℕ) (field : Field) → Says layout word field → (column : ℕ) → step layout column word at_start ≡ Ok (record { stage = Compared field; before = [] })
  says_step word field (inl (small, e)) column = ap (λ (w : List ℕ). step layout column w at_start) e ∙ field_step layout bytes field [] small column
  says_step word field (inr (h, found)) column = name_step layout bytes word field h found column

  in_step : (field : Field) (column : ℕ) → step layout column (codes "in") (record { stage = Compared field; before = [] }) ≡ Ok (in_state field Begun [])
  unfolding compared
  in_step field column = refl

  -- a field and `in`, and the text after them
  in_goes : (word : List ℕ) (field : Field) (r : List ℕ) → Says layout word field → reading layout bytes (word ++ (codes " in " ++ r)) at_start ≡ reading layout bytes r (in_state field Begun [])
  in_goes word field r says =
      let is = says_word word field says in
      goes_on layout bytes word (codes " in " ++ r) _ _ is.some (word_width word (codes " in " ++ r) is.all is.some refl) (says_step word field says)
      ∙ blank layout bytes _ _
      ∙ goes_on layout bytes (codes "in") (32 ∷ r) _ _ (omega arith) (word_width (codes "in") (32 ∷ r) refl (omega arith) refl) (in_step field)
      ∙ blank layout bytes _ _

  -- ---- ranges

  begun_step : (field : Field) (least : Operand) → IsOperand field least → (column : ℕ)
      → step layout column (operand_word least) (in_state field Begun []) ≡ Ok (in_state field (From least) [])
  unfolding next_within begun bounded
  begun_step field least fits column =
      let word = operand_is_word field least fits in
      not_blank layout bytes column (operand_word least) (in_state field Begun []) word
      ∙ ap (λ (b : Bool). cond b (Ok (in_state field First [])) (at column (operand_of layout field (operand_word least)) >>= λ o. Ok (in_state field (From o) []))) (no_symbol 123 (operand_word least) refl word.all)
      ∙ ap (λ (r : Result Operand FaultKind). at column r >>= λ o. Ok (in_state field (From o) [])) (operand_again layout field least fits)

  until_step : (field : Field) (least : Operand) (comparison : Comparison) (bound : Operand) → IsOperand field bound → (column : ℕ)
      → step layout column (operand_word bound) (in_state field (Until least comparison) []) ≡ Ok (settled [] (range_condition field least comparison bound))
  unfolding next_within
  until_step field least comparison bound fits column =
      not_blank layout bytes column (operand_word bound) (in_state field (Until least comparison) []) (operand_is_word field bound fits)
      ∙ ap (λ (r : Result Operand FaultKind). at column r >>= λ o. Ok (settled [] (range_condition field least comparison o))) (operand_again layout field bound fits)

  range_again : (word : List ℕ) (field : Field) (least : Operand) (dots : List ℕ) (comparison : Comparison) (bound : Operand)
      → Says layout word field → IsOperand field least → IsOperand field bound → 0 < length dots → is_word_byte (get_or (dots ++ (operand_word bound ++ [])) 0 0) ≡ false
      → width (dots ++ (operand_word bound ++ [])) ≡ length dots
      → ((column : ℕ) → step layout column dots (in_state field (From least) []) ≡ Ok (in_state field (Until least comparison) []))
      → reading layout bytes (range_text word least dots bound) at_start ≡ Ok (range_condition field least comparison bound)
  range_again word field least dots comparison bound says first second some symbol wide dots_step =
      let one = operand_is_word field least first in
      let other = operand_is_word field bound second in
      ap (λ (t : List ℕ). reading layout bytes (word ++ (codes " in " ++ (operand_word least ++ (dots ++ t)))) at_start) (sym (append-nil (operand_word bound)))
      ∙ in_goes word field (operand_word least ++ (dots ++ (operand_word bound ++ []))) says
      ∙ goes_on layout bytes (operand_word least) (dots ++ (operand_word bound ++ [])) _ _ one.some (word_width (operand_word least) _ one.all one.some symbol) (begun_step field least first)
      ∙ goes_on layout bytes dots (operand_word bound ++ []) _ _ some wide dots_step
      ∙ goes_on layout bytes (operand_word bound) [] _ _ other.some (word_width (operand_word bound) [] other.all other.some refl) (until_step field least comparison bound second)
      ∙ ends layout bytes (range_condition field least comparison bound)

  out_step : (field : Field) (least : Operand) (column : ℕ) → step layout column (codes "..") (in_state field (From least) []) ≡ Ok (in_state field (Until least Less) [])
  unfolding next_within
  out_step field least column = refl

  had_step : (field : Field) (least : Operand) (column : ℕ) → step layout column (codes "..=") (in_state field (From least) []) ≡ Ok (in_state field (Until least LessOrEqual) [])
  unfolding next_within
  had_step field least column = refl

  -- ---- sets

  brace_step : (field : Field) (column : ℕ) → step layout column (codes "{") (in_state field Begun []) ≡ Ok (in_state field First [])
  unfolding next_within begun
  brace_step field column = refl

  first_step : (field : Field) (element : Operand) → IsOperand field element → (column : ℕ)
      → step layout column (operand_word element) (in_state field First []) ≡ Ok (in_state field (Listed (one_condition field element)) [])
  unfolding next_within
  first_step field element fits column =
      not_blank layout bytes column (operand_word element) (in_state field First []) (operand_is_word field element fits)
      ∙ ap (λ (r : Result Operand FaultKind). at column r >>= λ o. Ok (in_state field (Listed (one_condition field o)) [])) (operand_again layout field element fits)

  comma_step : (field : Field) (p : Condition) (column : ℕ) → step layout column (codes ",") (in_state field (Listed p) []) ≡ Ok (in_state field (More p) [])
  unfolding next_within listed
  comma_step field p column = refl

  close_step : (field : Field) (p : Condition) (column : ℕ) → step layout column (codes "}") (in_state field (Listed p) []) ≡ Ok (settled [] p)
  unfolding next_within listed
  close_step field p column = refl

  more_step : (field : Field) (p : Condition) (element : Operand) → IsOperand field element → (column : ℕ)
      → step layout column (operand_word element) (in_state field (More p) []) ≡ Ok (in_state field (Listed (more_condition p field element)) [])
  unfolding next_within
  more_step field p element fits column =
      not_blank layout bytes column (operand_word element) (in_state field (More p) []) (operand_is_word field element fits)
      ∙ ap (λ (r : Result Operand FaultKind). at column r >>= λ o. Ok (in_state field (Listed (more_condition p field o)) [])) (operand_again layout field element fits)

  rest_goes : (field : Field) (rest : List Operand) (p : Condition) → AllByRecursion (IsOperand field) rest
      → reading layout bytes (rest_text rest) (in_state field (Listed p) []) ≡ Ok (either_of field p rest)
  rest_goes field [] p fits = goes_on layout bytes (codes "}") [] _ _ (omega arith) refl (close_step field p) ∙ ends layout bytes p
  rest_goes field (o ∷ os) p fits =
      let word = operand_is_word field o fits.0 in
      goes_on layout bytes (codes ",") (32 ∷ (operand_word o ++ rest_text os)) _ _ (omega arith) refl (comma_step field p)
      ∙ blank layout bytes _ _
      ∙ goes_on layout bytes (operand_word o) (rest_text os) _ _ word.some (word_width (operand_word o) (rest_text os) word.all word.some (rest_first os)) (more_step field p o fits.0)
      ∙ rest_goes field os (more_condition p field o) fits.1

  set_again : (word : List ℕ) (field : Field) (first : Operand) (rest : List Operand) → Says layout word field → IsOperand field first → AllByRecursion (IsOperand field) rest
      → reading layout bytes (set_text word first rest) at_start ≡ Ok (either_of field (Compare field Equal first) rest)
  set_again word field first rest says one others =
      let is = operand_is_word field first one in
      in_goes word field (codes "{" ++ (operand_word first ++ rest_text rest)) says
      ∙ goes_on layout bytes (codes "{") (operand_word first ++ rest_text rest) _ _ (omega arith) refl (brace_step field)
      ∙ goes_on layout bytes (operand_word first) (rest_text rest) _ _ is.some (word_width (operand_word first) (rest_text rest) is.all is.some (rest_first rest)) (first_step field first one)
      ∙ rest_goes field rest (one_condition field first) others

pub ranges_again : RangesRead
ranges_again layout word field least bound says one other =
    let is = operand_is_word field bound other in
    let out = range_text word least (codes "..") bound in
    let had = range_text word least (codes "..=") bound in (
      within layout out (range_condition field least Less bound)
          (range_again layout (length out) word field least (codes "..") Less bound says one other (omega arith) refl (dots_width (operand_word bound) [] is) (out_step layout (length out) field least)),
      within layout had (range_condition field least LessOrEqual bound)
          (range_again layout (length had) word field least (codes "..=") LessOrEqual bound says one other (omega arith) refl refl (had_step layout (length had) field least)),
    )

pub sets_again : SetsRead
sets_again layout word field first rest says one others = within layout _ _ (set_again layout _ word field first rest says one others)
