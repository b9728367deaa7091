-- Operands: what stands between commas.
use Rattle.std.proofs.Common.{◌≡◌, ℕ, cond, eqb, List, [], ◌∷◌, length, map, Some, None, Result, Ok, Err, refl, sym, ap}
use Rattle.std.proofs.Math.Dec.{eqb-suc-zero}
use Rattle.ebpf_asm.specs.declared.fault.FaultKind.{FaultKind}
use Rattle.ebpf_asm.specs.declared.fault.FaultKind.TheVariants.{Operand}
use Rattle.common_definitions.specs.Readings.{◌>>=◌}
use Rattle.text_lines.specs.Cut.{cut_at, trimmed}
use Rattle.text_lines.specs.Laws.{HasFirst}
use Rattle.text_lines.proofs.Proved.{uncut_is_one_part, cut_is_after_first_part, some_part_is_there}
use Rattle.ebpf_asm.specs.Statement.{operands_of, none_of, one_of, two_of, three_of}

operands_of-one : (text : List ℕ) → cut_at 44 text ≡ None → operands_of text ≡ trimmed text ∷ []
unfolding operands_of
operands_of-one text e = ap (map trimmed) (uncut_is_one_part 44 text e)

operands_of-more : (text front rest : List ℕ) → cut_at 44 text ≡ Some (front, rest) → operands_of text ≡ trimmed front ∷ operands_of rest
unfolding operands_of
operands_of-more text front rest e = ap (map trimmed) (cut_is_after_first_part 44 text front rest e)

-- there is an operand always
operands_of-some : (text : List ℕ) → HasFirst (operands_of text)
unfolding operands_of
operands_of-some text = let parts = some_part_is_there 44 text in (trimmed parts.0, map trimmed parts.1, ap (map trimmed) parts.2)

-- the readings of so many operands, one comma at a time
pub one_at_end : (text first : List ℕ) → None ≡ cut_at 44 text → first ≡ trimmed text → Ok first ≡ one_of (operands_of text)
unfolding one_of
one_at_end text first e f = rw (operands_of-one text (sym e), f) refl

one_of-more : (first : List ℕ) (texts : List (List ℕ)) → HasFirst texts → one_of (first ∷ texts) ≡ Err Operand
unfolding one_of
one_of-more first texts more = rw (more.2) refl

pub one_before_more : (text front rest : List ℕ) → Some (front, rest) ≡ cut_at 44 text → Err Operand ≡ one_of (operands_of text)
one_before_more text front rest e = rw (operands_of-more text front rest (sym e)) (sym (one_of-more (trimmed front) (operands_of rest) (operands_of-some rest)))

pub none_of-one : (texts : List (List ℕ)) → none_of texts ≡ (one_of texts >>= λ text. cond (eqb (length text) 0) (Ok None) (Err Operand))
unfolding none_of one_of
none_of-one [] = refl
none_of-one ([] ∷ []) = refl
none_of-one ((b ∷ bs) ∷ []) = sym (ap (λ c. cond c (Ok None) (Err Operand)) (eqb-suc-zero (length bs)))
none_of-one ([] ∷ y ∷ ys) = refl
none_of-one ((b ∷ bs) ∷ y ∷ ys) = refl

two_of-one : (first : List ℕ) (texts : List (List ℕ)) → two_of (first ∷ texts) ≡ (one_of texts >>= λ text. Ok (first, text))
unfolding two_of one_of
two_of-one first [] = refl
two_of-one first (x ∷ []) = refl
two_of-one first (x ∷ y ∷ ys) = refl

pub two_at_end : (text : List ℕ) → None ≡ cut_at 44 text → Err Operand ≡ two_of (operands_of text)
unfolding two_of
two_at_end text e = rw (operands_of-one text (sym e)) refl

pub two_before_more : (text front rest first : List ℕ) (second : Result (List ℕ) FaultKind) → Some (front, rest) ≡ cut_at 44 text → first ≡ trimmed front → second ≡ one_of (operands_of rest)
    → (second >>= λ t. Ok (first, t)) ≡ two_of (operands_of text)
two_before_more text front rest first second e f g = rw (operands_of-more text front rest (sym e), f, g) (sym (two_of-one (trimmed front) (operands_of rest)))

three_of-two : (first : List ℕ) (texts : List (List ℕ)) → three_of (first ∷ texts) ≡ (two_of texts >>= λ t. Ok (first, t.0, t.1))
unfolding three_of two_of
three_of-two first [] = refl
three_of-two first (x ∷ []) = refl
three_of-two first (x ∷ y ∷ []) = refl
three_of-two first (x ∷ y ∷ z ∷ zs) = refl

pub three_at_end : (text : List ℕ) → None ≡ cut_at 44 text → Err Operand ≡ three_of (operands_of text)
unfolding three_of
three_at_end text e = rw (operands_of-one text (sym e)) refl

pub three_before_more : (text front rest first : List ℕ) (others : Result (List ℕ × List ℕ) FaultKind) → Some (front, rest) ≡ cut_at 44 text → first ≡ trimmed front → others ≡ two_of (operands_of rest)
    → (others >>= λ t. Ok (first, t.0, t.1)) ≡ three_of (operands_of text)
three_before_more text front rest first others e f g = rw (operands_of-more text front rest (sym e), f, g) (sym (three_of-two (trimmed front) (operands_of rest)))
