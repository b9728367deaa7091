-- Sums of bytes, one bit or byte after another.
use Rattle.std.proofs.Common.{◌≡◌, ℕ, suc, zero, ◌+◌, ◌-◌, ◌<◌, List, [], ◌∷◌, codes, length, drop, get_or, refl, sym, ap, ◌∙◌, arith}
use Rattle.link_notes.specs.Sum.{after_bit, after_bits, after_byte, after_bytes, sum_of}

-- one more bit
pub bit_more : (bit left all : ℕ) → bit < 8 → after_bits (8 - bit) left ≡ all → after_bits (8 - (bit + 1)) (after_bit left) ≡ all
bit_more bit left all inside so_far =
    let next : 8 - bit ≡ suc (8 - (bit + 1)) = omega arith in
    ap (λ (n : ℕ). after_bits n left) (sym next) ∙ so_far

-- one more byte
pub byte_more : (bytes : List ℕ) (at left all d : ℕ) → at < length bytes → after_bytes left (drop at bytes) ≡ all
    → after_bytes (after_byte left (get_or bytes at d)) (drop (at + 1) bytes) ≡ all
byte_more [] at left all d inside so_far = absurd (omega arith)
byte_more (byte ∷ bytes) zero left all d inside so_far = so_far
byte_more (byte ∷ bytes) (suc at) left all d inside so_far =
    let on : suc at + 1 ≡ suc (at + 1) = omega arith in
    ap (λ (n : ℕ). after_bytes (after_byte left (get_or bytes at d)) (drop n (byte ∷ bytes))) on
    ∙ byte_more bytes at left all d (omega (arith, inside)) so_far

-- the example that descriptions of CRC-32 give
example : sum_of (codes "123456789") ≡ 3421780262
example = refl
