-- Hexadecimal digits, put behind a line a chunk at a time.
use Rattle.std.proofs.Common.{◌≡◌, ℕ, List, [], ◌∷◌, ◌++◌, length, slice_index, ◌/◌, ◌%◌, refl, sym, ap, ◌∙◌, append_assoc, append-nil, arith}
use Rattle.hex.specs.Hex.{encode_with, encode_lower, lower_digits}

encode_lower-append : (xs ys : List ℕ) → encode_lower (xs ++ ys) ≡ encode_lower xs ++ encode_lower ys
unfolding encode_with
encode_lower-append [] ys = refl
encode_lower-append (x ∷ xs) ys = ap (λ (zs : List ℕ). slice_index lower_digits (x / 16) ∷ slice_index lower_digits (x % 16) ∷ zs) (encode_lower-append xs ys)

-- the digits of a chunk are behind the line, and those of the bytes behind it are not yet
pub chunk_pushed : (line after chunk behind rest whole : List ℕ) → line ++ encode_lower rest ≡ whole → rest ≡ chunk ++ behind → after ≡ line ++ encode_lower chunk → after ++ encode_lower behind ≡ whole
chunk_pushed line after chunk behind rest whole so_far cut pushed =
    ap (λ (xs : List ℕ). xs ++ encode_lower behind) pushed ∙ append_assoc line (encode_lower chunk) (encode_lower behind)
    ∙ ap (λ (xs : List ℕ). line ++ xs) (sym (encode_lower-append chunk behind)) ∙ ap (λ (xs : List ℕ). line ++ encode_lower xs) (sym cut) ∙ so_far

-- no bytes are left
pub chunks_pushed : (line rest whole : List ℕ) → line ++ encode_lower rest ≡ whole → length rest ≡ 0 → line ≡ whole
unfolding encode_with
chunks_pushed line [] whole so_far e = sym (append-nil line) ∙ so_far
chunks_pushed line (b ∷ rest) whole so_far e = absurd (omega (arith, e))
