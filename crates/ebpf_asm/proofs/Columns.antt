-- A number in columns.
use Rattle.std.proofs.Common.{◌≡◌, ℕ, zero, suc, ◌-◌, ◌^◌, false, List, [], ◌∷◌, ◌++◌, length, replicate, refl, ap, arith}
use Rattle.std.specs.List.{repeat}
use Rattle.std.specs.Char.{encode_utf8}
use Rattle.std.specs.Fmt.{char_count, format_spec, padded_integral}
use Rattle.std.proofs.lemmas.List.{append-nil}
use Rattle.std.proofs.lemmas.Str.{encode_ascii}

blanks : (n : ℕ) → repeat {A = ℕ} n (32 ∷ []) ≡ replicate n 32
blanks zero = refl
blanks (suc n) = ap (λ (text : List ℕ). 32 ∷ text) (blanks n)

-- so many blanks and the digits, and nothing behind them
right_aligned : (blank digits : List ℕ) (before after : ℕ) → blank ≡ 32 ∷ [] → before ≡ 4 - length digits → after ≡ 0
    → repeat before blank ++ [] ++ [] ++ [] ++ (digits ++ repeat after blank) ≡ replicate (4 - length digits) 32 ++ digits
right_aligned blank digits before after is wide none =
    let bare = append-nil (repeat before blank) in
    rw (none, bare, bare, bare, append-nil digits, is, blanks before, wide) refl

-- what `{:4}` writes of a number that has these digits
pub in_columns : (digits : List ℕ) → padded_integral (format_spec 32 0 0 4 (2 ^ 64 - 1)) false [] digits ≡ replicate (4 - length digits) 32 ++ digits
unfolding padded_integral char_count
in_columns digits =
    let padding = 4 - length digits - 0 - 0 in
    right_aligned (encode_utf8 32) digits padding (padding - padding) (encode_ascii 32 (omega arith)) (omega arith) (omega arith)
