-- Bytes between quotes are read.
use Rattle.std.proofs.Common.{◌≡◌, ℕ, ◌+◌, ◌<◌, ◌^◌, min, Bool, true, false, not, cond, eqb, List, [], ◌∷◌, ◌++◌, length, Option, Result, Ok, Err, refl, sym, ap, ◌∙◌, codes, append_assoc, arith}
use Rattle.std.specs.Fmt.{decimal}
use Rattle.std.specs.List.{list_all}
use Rattle.std.proofs.lemmas.Bool.{eq-eqb, ne_eqb}
use Rattle.std.proofs.lemmas.List.{append-nil, length-append}
use Rattle.instruction_set.specs.Instruction.{size_of}
use Rattle.instruction_set.specs.declared.operation.Size.{Size}
use Rattle.instruction_set.specs.declared.operation.Size.TheVariants.{Byte, HalfWord, Word, DoubleWord}
use Rattle.record_questions.specs.declared.question.Comparison.{Comparison}
use Rattle.record_questions.specs.declared.question.Comparison.TheVariants.{Equal, NotEqual}
use Rattle.record_questions.specs.declared.question.Field.{Field}
use Rattle.common_definitions.specs.Readings.{◌>>=◌}
use Rattle.question_words.specs.declared.fault.FaultKind.TheVariants as kinds
use Rattle.question_words.specs.declared.fault.WordFault.{WordFault}
use Rattle.question_words.specs.Condition.{Bytes, Not}
use Rattle.question_words.specs.Cutting.{width}
use Rattle.question_words.specs.Fault.{at}
use Rattle.question_words.specs.Laws.{QuotesRead, Says, TextsRead, quoted, quoted_text}
use Rattle.question_words.specs.Reading.{Against, AgainstBytes, Compared, against, at_start, bytes_before_quote, bytes_condition, compared, settled, sized, step, text_against, text_at}
use Rattle.question_words.proofs.FirstWords.{word_width}
use Rattle.question_words.proofs.ReadBack.{blank, bytes_step, bytes_word, ends, goes_on, reading, there_some, there_step, there_text, there_width, within}
use Rattle.question_words.proofs.RangesAgain.{says_step, says_word}
use Rattle.question_words.proofs.WordsAgain.{cut_there, place_before}

-- a text in quotes is one word
quoted_wide : (bs : List ℕ) → list_all (λ b. not (eqb b 34)) bs ≡ true → width (quoted bs ++ []) ≡ length (quoted bs)
quoted_wide bs none =
    ap (λ (t : List ℕ). width t) (append-nil (quoted bs))
    ∙ ap (λ (n : ℕ). min (length (quoted bs)) (n + 2)) (place_before bs 34 [] none refl)
    ∙ omega (arith, length-append bs (34 ∷ []))

module _ (layout : List (List ℕ × Field)) (bytes : ℕ) where
  quoted_step : (offset : ℕ) (there : Bool) (bs : List ℕ) → 0 < length bs → list_all (λ b. not (eqb b 34)) bs ≡ true → (column : ℕ)
      → step layout column (quoted bs) (record { stage = AgainstBytes offset there; before = [] }) ≡ Ok (settled [] (bytes_condition offset there bs))
  quoted_step offset there bs some none column =
      ap (λ (o : Option (List ℕ × List ℕ)). at column (bytes_before_quote o) >>= λ found. Ok (settled [] (bytes_condition offset there found))) (cut_there bs 34 [] none refl)
      ∙ ap (λ (b : Bool). at column (cond b (Err kinds.Bytes) (Ok bs)) >>= λ found. Ok (settled [] (bytes_condition offset there found))) (ne_eqb (length bs) 0 (omega (arith, some)))

  -- bytes between quotes
  quoted_again : (offset : ℕ) (there : Bool) (bs : List ℕ) → offset < 2 ^ 16 → 0 < length bs → list_all (λ b. not (eqb b 34)) bs ≡ true
      → reading layout bytes ((codes "bytes@" ++ decimal offset) ++ (32 ∷ (there_text layout bytes there ++ (32 ∷ (quoted bs ++ []))))) at_start ≡ Ok (bytes_condition offset there bs)
  quoted_again offset there bs small some none =
      let word = bytes_word layout bytes offset small in
      goes_on layout bytes (codes "bytes@" ++ decimal offset) (32 ∷ (there_text layout bytes there ++ (32 ∷ (quoted bs ++ [])))) _ _ word.some
      (word_width (codes "bytes@" ++ decimal offset) _ word.all word.some refl) (bytes_step layout bytes offset [] small)
      ∙ blank layout bytes _ _
      ∙ goes_on layout bytes (there_text layout bytes there) (32 ∷ (quoted bs ++ [])) _ _ (there_some layout bytes there) (there_width layout bytes there _) (there_step layout bytes offset there [])
      ∙ blank layout bytes _ _
      ∙ goes_on layout bytes (quoted bs) [] _ _ (omega arith) (quoted_wide bs none) (quoted_step offset there bs some none)
      ∙ ends layout bytes (bytes_condition offset there bs)

  there_shown : (offset : ℕ) (bs : List ℕ) → quoted_text offset (codes " == ") bs ≡ (codes "bytes@" ++ decimal offset) ++ (32 ∷ (there_text layout bytes true ++ (32 ∷ (quoted bs ++ []))))
  unfolding there_text
  there_shown offset bs = sym (append-nil (quoted_text offset (codes " == ") bs)) ∙ simp append_assoc

  other_shown : (offset : ℕ) (bs : List ℕ) → quoted_text offset (codes " != ") bs ≡ (codes "bytes@" ++ decimal offset) ++ (32 ∷ (there_text layout bytes false ++ (32 ∷ (quoted bs ++ []))))
  unfolding there_text
  other_shown offset bs = sym (append-nil (quoted_text offset (codes " != ") bs)) ∙ simp append_assoc

  there_again : (offset : ℕ) (bs : List ℕ) → offset < 2 ^ 16 → 0 < length bs → list_all (λ b. not (eqb b 34)) bs ≡ true
      → reading layout bytes (quoted_text offset (codes " == ") bs) at_start ≡ Ok (Bytes offset bs)
  there_again offset bs small some none = ap (λ (t : List ℕ). reading layout bytes t at_start) (there_shown offset bs) ∙ quoted_again offset true bs small some none

  other_again : (offset : ℕ) (bs : List ℕ) → offset < 2 ^ 16 → 0 < length bs → list_all (λ b. not (eqb b 34)) bs ≡ true
      → reading layout bytes (quoted_text offset (codes " != ") bs) at_start ≡ Ok (Not (Bytes offset bs))
  other_again offset bs small some none = ap (λ (t : List ℕ). reading layout bytes t at_start) (other_shown offset bs) ∙ quoted_again offset false bs small some none

module _ (layout : List (List ℕ × Field)) (bytes : ℕ) where
  equal_of : Bool → Comparison
  equal_of true = Equal
  equal_of false = NotEqual

  equal_step : (field : Field) (there : Bool) (column : ℕ) → step layout column (there_text layout bytes there) (record { stage = Compared field; before = [] }) ≡ Ok (record { stage = Against field (equal_of there); before = [] })
  unfolding there_text equal_of compared
  equal_step field true column = refl
  equal_step field false column = refl

  some_of_size : (size : Size) (n : ℕ) → n ≡ size_of size → 0 < n
  some_of_size Byte n h = omega (arith, h)
  some_of_size HalfWord n h = omega (arith, h)
  some_of_size Word n h = omega (arith, h)
  some_of_size DoubleWord n h = omega (arith, h)

  text_found : (field : Field) (bs : List ℕ) → length bs ≡ size_of field.size → list_all (λ b. not (eqb b 34)) bs ≡ true → (column : ℕ) → text_at column field (quoted bs) ≡ Ok bs
  unfolding text_at
  text_found field bs same none column =
      ap (λ (o : Option (List ℕ × List ℕ)). at column (bytes_before_quote o) >>= λ found. at column (sized field found)) (cut_there bs 34 [] none refl)
      ∙ ap (λ (b : Bool). at column (cond b (Err kinds.Bytes) (Ok bs)) >>= λ found. at column (sized field found)) (ne_eqb (length bs) 0 (let some = some_of_size field.size (length bs) same in omega (arith, some)))
      ∙ ap (λ (b : Bool). at column (cond b (Ok bs) (Err kinds.Length))) (eq-eqb (length bs) (size_of field.size) same)

  text_step : (field : Field) (there : Bool) (bs : List ℕ) → length bs ≡ size_of field.size → list_all (λ b. not (eqb b 34)) bs ≡ true → (column : ℕ)
      → step layout column (quoted bs) (record { stage = Against field (equal_of there); before = [] }) ≡ Ok (settled [] (bytes_condition field.offset there bs))
  unfolding equal_of against text_against
  text_step field true bs same none column = ap (λ (r : Result (List ℕ) WordFault). r >>= λ found. Ok (settled [] (bytes_condition field.offset true found))) (text_found field bs same none column)
  text_step field false bs same none column = ap (λ (r : Result (List ℕ) WordFault). r >>= λ found. Ok (settled [] (bytes_condition field.offset false found))) (text_found field bs same none column)

  -- a field and a text
  text_goes : (word : List ℕ) (field : Field) (there : Bool) (bs : List ℕ) → Says layout word field → length bs ≡ size_of field.size → list_all (λ b. not (eqb b 34)) bs ≡ true
      → reading layout bytes (word ++ (32 ∷ (there_text layout bytes there ++ (32 ∷ (quoted bs ++ []))))) at_start ≡ Ok (bytes_condition field.offset there bs)
  text_goes word field there bs says same none =
      let is = says_word layout bytes word field says in
      goes_on layout bytes word (32 ∷ (there_text layout bytes there ++ (32 ∷ (quoted bs ++ [])))) _ _ is.some (word_width word _ is.all is.some refl) (says_step layout bytes word field says)
      ∙ blank layout bytes _ _
      ∙ goes_on layout bytes (there_text layout bytes there) (32 ∷ (quoted bs ++ [])) _ _ (there_some layout bytes there) (there_width layout bytes there _) (equal_step field there)
      ∙ blank layout bytes _ _
      ∙ goes_on layout bytes (quoted bs) [] _ _ (omega arith) (quoted_wide bs none) (text_step field there bs same none)
      ∙ ends layout bytes (bytes_condition field.offset there bs)

  equal_again : (word : List ℕ) (field : Field) (bs : List ℕ) → Says layout word field → length bs ≡ size_of field.size → list_all (λ b. not (eqb b 34)) bs ≡ true
      → reading layout bytes (word ++ (codes " == " ++ quoted bs)) at_start ≡ Ok (Bytes field.offset bs)
  unfolding there_text
  equal_again word field bs says same none =
      ap (λ (t : List ℕ). reading layout bytes (word ++ (codes " == " ++ t)) at_start) (sym (append-nil (quoted bs))) ∙ text_goes word field true bs says same none

  unequal_again : (word : List ℕ) (field : Field) (bs : List ℕ) → Says layout word field → length bs ≡ size_of field.size → list_all (λ b. not (eqb b 34)) bs ≡ true
      → reading layout bytes (word ++ (codes " != " ++ quoted bs)) at_start ≡ Ok (Not (Bytes field.offset bs))
  unfolding there_text
  unequal_again word field bs says same none =
      ap (λ (t : List ℕ). reading layout bytes (word ++ (codes " != " ++ t)) at_start) (sym (append-nil (quoted bs))) ∙ text_goes word field false bs says same none

pub texts_again : TextsRead
texts_again layout word field bs says same none =
    (within layout _ _ (equal_again layout _ word field bs says same none), within layout _ _ (unequal_again layout _ word field bs says same none))

pub quotes_again : QuotesRead
quotes_again offset bs small some none = (λ layout. within layout _ _ (there_again layout _ offset bs small some none), λ layout. within layout _ _ (other_again layout _ offset bs small some none))
