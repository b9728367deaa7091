-- What stands before the comment of a line.
use Rattle.std.proofs.Common.{◌≡◌, ℕ, ◌+◌, ◌==◌, suc, not, Bool, true, false, cond, List, [], ◌∷◌, ◌++◌, length, take, refl, sym, ap, ◌∙◌, arith}
use Rattle.std.specs.List.{All, position_or_len}
use Rattle.std.proofs.lemmas.List.{take_all}
use Rattle.std.proofs.lemmas.List.Sums.{position_or_len_is}
use Rattle.text_lines.specs.Cut.{uncommented}

abbrev code_length : List ℕ → ℕ
code_length line = position_or_len (λ (b : ℕ). b == 59) line

take_one : (n b : ℕ) (line : List ℕ) → take (1 + n) (b ∷ line) ≡ b ∷ take n line
take_one n b line = ap (λ (k : ℕ). take k (b ∷ line)) (let e : 1 + n ≡ suc n = omega arith in e)

-- a first byte stays, unless it begins a comment
pub uncommented-cons : (b : ℕ) (line : List ℕ) (test : Bool) → (b == 59) ≡ test → uncommented (b ∷ line) ≡ cond test [] (b ∷ uncommented line)
uncommented-cons b line true e = ap (λ (t : Bool). take (cond (not t) (1 + code_length line) 0) (b ∷ line)) e
uncommented-cons b line false e = ap (λ (t : Bool). take (cond (not t) (1 + code_length line) 0) (b ∷ line)) e ∙ take_one (code_length line) b line

-- a line without a `;` stays as it is
pub uncommented-same : (line : List ℕ) → All (λ b. (b == 59) ≡ false) line → uncommented line ≡ line
uncommented-same line none =
    let at_end : code_length line ≡ length line = position_or_len_is (λ (b : ℕ). b == 59) line (length line) 0 (omega arith) (λ k inside. none k 0 inside) (λ inside. absurd (omega arith)) in
    ap (λ (n : ℕ). take n line) at_end ∙ take_all (length line) line (omega arith)

-- what stands before the first `;` stays what it is where another one stands behind the line
pub uncommented-comment : (line rest : List ℕ) → uncommented (line ++ 59 ∷ rest) ≡ uncommented line
uncommented-comment [] rest = refl
uncommented-comment (b ∷ line) rest = by (b == 59) refl (uncommented-comment line rest)
  where
    by : (test : Bool) → (b == 59) ≡ test → uncommented (line ++ 59 ∷ rest) ≡ uncommented line → uncommented ((b ∷ line) ++ 59 ∷ rest) ≡ uncommented (b ∷ line)
    by true e later = uncommented-cons b (line ++ 59 ∷ rest) true e ∙ sym (uncommented-cons b line true e)
    by false e later = uncommented-cons b (line ++ 59 ∷ rest) false e ∙ ap (λ (xs : List ℕ). b ∷ xs) later ∙ sym (uncommented-cons b line false e)
