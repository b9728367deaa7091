-- Where a search finds a byte.
use Rattle.std.proofs.Common.{◌≡◌, ℕ, Bool, length, List, Option, Some, None, refl, arith}
use Rattle.std.specs.List.{position, position_or_len}
use Rattle.std.proofs.lemmas.Bool.{false_from_ne_true, lt-ltb, le-ltb}
use Rattle.std.proofs.lemmas.List.Sums.{position_or_len_is}
use Rattle.memchr.specs.Find.{IsFirstByte}

-- what a search finds is the first place that passes the test
pub first_position : (test : ℕ → Bool) (text : List ℕ) (found : Option ℕ) → IsFirstByte test text found → found ≡ position test text
first_position test text None first =
    let at_end : position_or_len test text ≡ length text =
    position_or_len_is test text (length text) 0 (omega arith) (λ k h. false_from_ne_true _ (first k (omega arith) h)) (λ h. absurd (omega (arith, h))) in
    rw (at_end, le-ltb (length text) (length text) (omega arith)) refl
first_position test text (Some k) first =
    let at_k : position_or_len test text ≡ k =
    position_or_len_is test text k 0 (omega (arith, first.0.high)) (λ j h. false_from_ne_true _ (first.0.before j (omega arith) h)) (λ h. first.1) in
    rw (at_k, lt-ltb k (length text) first.0.high) refl
