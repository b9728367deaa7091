-- What is read without parentheses.
use Rattle.std.proofs.Common.{◌≡◌, ℕ, Bool, cond, List, [], ◌∷◌, ◌++◌, Ok, refl, sym, ap, ◌∙◌, codes, arith}
use Rattle.std.proofs.lemmas.List.{append-nil}
use Rattle.record_questions.specs.declared.question.Field.{Field}
use Rattle.question_words.specs.Condition.{Condition, And, Or, Not}
use Rattle.question_words.specs.Laws.{IsCondition, WordsHavePrecedence, row_text}
use Rattle.question_words.specs.Printing.{part_text}
use Rattle.question_words.specs.Reading.{Open, OpenAnd, OpenNot, OpenOr, Wanted, Whole, at_start, joined, wanted, with_or}
use Rattle.question_words.proofs.ReadBack.{blank, ends, ends_or, first_shown, goes_on, part_shown, reading, shown, shown_goes, within}

module _ (layout : List (List ℕ × Field)) (bytes : ℕ) where
  and_read : (p : Condition) (before : List Open) (r : List ℕ)
      → reading layout bytes (codes " && " ++ r) (record { stage = Whole p; before = before }) ≡ reading layout bytes r (record { stage = Wanted; before = OpenAnd p ∷ before })
  unfolding joined
  and_read p before r = blank layout bytes _ _ ∙ goes_on layout bytes (codes "&&") (32 ∷ r) _ _ (omega arith) refl (λ column. refl) ∙ blank layout bytes _ _

  or_read : (p : Condition) (before : List Open) (r : List ℕ)
      → reading layout bytes (codes " || " ++ r) (record { stage = Whole p; before = before })
      ≡ reading layout bytes r (record { stage = Wanted; before = OpenOr (with_or before p).0 ∷ (with_or before p).1 })
  unfolding joined
  or_read p before r = blank layout bytes _ _ ∙ goes_on layout bytes (codes "||") (32 ∷ r) _ _ (omega arith) refl (λ column. refl) ∙ blank layout bytes _ _

  not_read : (p : Condition) (r : List ℕ) → reading layout bytes (33 ∷ shown layout bytes p r) at_start ≡ reading layout bytes (shown layout bytes p r) (record { stage = Wanted; before = OpenNot ∷ [] })
  unfolding wanted
  not_read p r = goes_on layout bytes (33 ∷ []) (shown layout bytes p r) _ _ (omega arith) (ap (λ (b : Bool). cond b 2 1) (first_shown layout bytes p r)) (λ column. refl)

  two_shown : (p : Condition) (word : List ℕ) (q : Condition) → part_text p ++ (word ++ part_text q) ≡ shown layout bytes p (word ++ shown layout bytes q [])
  two_shown p word q = part_shown layout bytes p (word ++ part_text q) ∙ ap (λ (t : List ℕ). shown layout bytes p (word ++ t)) (sym (append-nil (part_text q)) ∙ part_shown layout bytes q [])

  row_shown : (p : Condition) (first : List ℕ) (q : Condition) (second : List ℕ) (r : Condition) → row_text p first q second r ≡ shown layout bytes p (first ++ shown layout bytes q (second ++ shown layout bytes r []))
  row_shown p first q second r = part_shown layout bytes p (first ++ (part_text q ++ (second ++ part_text r))) ∙ ap (λ (t : List ℕ). shown layout bytes p (first ++ t)) (two_shown q second r)

  or_and_again : (p q r : Condition) → IsCondition p → IsCondition q → IsCondition r → reading layout bytes (row_text p (codes " || ") q (codes " && ") r) at_start ≡ Ok (Or p (And q r))
  or_and_again p q r a b c =
      ap (λ (t : List ℕ). reading layout bytes t at_start) (row_shown p (codes " || ") q (codes " && ") r)
      ∙ shown_goes layout bytes p a (codes " || " ++ shown layout bytes q (codes " && " ++ shown layout bytes r [])) refl [] ∙ or_read p [] (shown layout bytes q (codes " && " ++ shown layout bytes r []))
      ∙ shown_goes layout bytes q b (codes " && " ++ shown layout bytes r []) refl (OpenOr p ∷ []) ∙ and_read q (OpenOr p ∷ []) (shown layout bytes r [])
      ∙ shown_goes layout bytes r c [] refl (OpenAnd q ∷ OpenOr p ∷ []) ∙ ends_or layout bytes p (And q r)

  and_or_again : (p q r : Condition) → IsCondition p → IsCondition q → IsCondition r → reading layout bytes (row_text p (codes " && ") q (codes " || ") r) at_start ≡ Ok (Or (And p q) r)
  and_or_again p q r a b c =
      ap (λ (t : List ℕ). reading layout bytes t at_start) (row_shown p (codes " && ") q (codes " || ") r)
      ∙ shown_goes layout bytes p a (codes " && " ++ shown layout bytes q (codes " || " ++ shown layout bytes r [])) refl [] ∙ and_read p [] (shown layout bytes q (codes " || " ++ shown layout bytes r []))
      ∙ shown_goes layout bytes q b (codes " || " ++ shown layout bytes r []) refl (OpenAnd p ∷ []) ∙ or_read (And p q) [] (shown layout bytes r [])
      ∙ shown_goes layout bytes r c [] refl (OpenOr (And p q) ∷ []) ∙ ends_or layout bytes (And p q) r

  and_and_again : (p q r : Condition) → IsCondition p → IsCondition q → IsCondition r → reading layout bytes (row_text p (codes " && ") q (codes " && ") r) at_start ≡ Ok (And (And p q) r)
  and_and_again p q r a b c =
      ap (λ (t : List ℕ). reading layout bytes t at_start) (row_shown p (codes " && ") q (codes " && ") r)
      ∙ shown_goes layout bytes p a (codes " && " ++ shown layout bytes q (codes " && " ++ shown layout bytes r [])) refl [] ∙ and_read p [] (shown layout bytes q (codes " && " ++ shown layout bytes r []))
      ∙ shown_goes layout bytes q b (codes " && " ++ shown layout bytes r []) refl (OpenAnd p ∷ []) ∙ and_read (And p q) [] (shown layout bytes r [])
      ∙ shown_goes layout bytes r c [] refl (OpenAnd (And p q) ∷ []) ∙ ends layout bytes (And (And p q) r)

  or_or_again : (p q r : Condition) → IsCondition p → IsCondition q → IsCondition r → reading layout bytes (row_text p (codes " || ") q (codes " || ") r) at_start ≡ Ok (Or (Or p q) r)
  or_or_again p q r a b c =
      ap (λ (t : List ℕ). reading layout bytes t at_start) (row_shown p (codes " || ") q (codes " || ") r)
      ∙ shown_goes layout bytes p a (codes " || " ++ shown layout bytes q (codes " || " ++ shown layout bytes r [])) refl [] ∙ or_read p [] (shown layout bytes q (codes " || " ++ shown layout bytes r []))
      ∙ shown_goes layout bytes q b (codes " || " ++ shown layout bytes r []) refl (OpenOr p ∷ []) ∙ or_read q (OpenOr p ∷ []) (shown layout bytes r [])
      ∙ shown_goes layout bytes r c [] refl (OpenOr (Or p q) ∷ []) ∙ ends_or layout bytes (Or p q) r

  not_and_again : (p q : Condition) → IsCondition p → IsCondition q → reading layout bytes (codes "!" ++ (part_text p ++ (codes " && " ++ part_text q))) at_start ≡ Ok (And (Not p) q)
  not_and_again p q a b =
      ap (λ (t : List ℕ). reading layout bytes (33 ∷ t) at_start) (two_shown p (codes " && ") q)
      ∙ not_read p (codes " && " ++ shown layout bytes q []) ∙ shown_goes layout bytes p a (codes " && " ++ shown layout bytes q []) refl (OpenNot ∷ []) ∙ and_read (Not p) [] (shown layout bytes q [])
      ∙ shown_goes layout bytes q b [] refl (OpenAnd (Not p) ∷ []) ∙ ends layout bytes (And (Not p) q)

  not_or_again : (p q : Condition) → IsCondition p → IsCondition q → reading layout bytes (codes "!" ++ (part_text p ++ (codes " || " ++ part_text q))) at_start ≡ Ok (Or (Not p) q)
  not_or_again p q a b =
      ap (λ (t : List ℕ). reading layout bytes (33 ∷ t) at_start) (two_shown p (codes " || ") q)
      ∙ not_read p (codes " || " ++ shown layout bytes q []) ∙ shown_goes layout bytes p a (codes " || " ++ shown layout bytes q []) refl (OpenNot ∷ []) ∙ or_read (Not p) [] (shown layout bytes q [])
      ∙ shown_goes layout bytes q b [] refl (OpenOr (Not p) ∷ []) ∙ ends_or layout bytes (Not p) q

pub precedence : WordsHavePrecedence
precedence p q r a b c = record {
  or_and = λ layout. within layout _ _ (or_and_again layout _ p q r a b c);
  and_or = λ layout. within layout _ _ (and_or_again layout _ p q r a b c);
  and_and = λ layout. within layout _ _ (and_and_again layout _ p q r a b c);
  or_or = λ layout. within layout _ _ (or_or_again layout _ p q r a b c);
  not_and = λ layout. within layout _ _ (not_and_again layout _ p q a b);
  not_or = λ layout. within layout _ _ (not_or_again layout _ p q a b);
}
