-- Bytes are those of the number that they spell.
use Rattle.std.proofs.Common.{◌≡◌, ℕ, zero, suc, ◌+◌, ◌*◌, ◌/◌, ◌%◌, ◌^◌, ◌<◌, ◌≤◌, List, [], ◌∷◌, ◌++◌, length, take, drop, refl, ap, sym, ◌∙◌, arith}
use Rattle.std.proofs.Math.Nat.{div-div-eq-div-mul, pow-succ'}
use Rattle.std.proofs.lemmas.List.{take-append-drop}
use Rattle.std.specs.Int.{byte_at, bytes_low_first}
use Rattle.byteorder.specs.Endian.{little_bytes, little_number}
use Rattle.byteorder.specs.Numbers.{little_from-bytes, little_from-cons}
use Rattle.common_definitions.specs.Bytes.{AreBytes}

-- the byte of a number at a place is the number divided by that power of 256, modulo 256
pub byte_is : (place n : ℕ) → byte_at place n ≡ n / 256 ^ place % 256
byte_is place n = omega (arith, little_from-bytes 1 place n [])

-- a byte above the lowest is one of the number without that
byte_above : (i low rest : ℕ) → low < 256 → byte_at (suc i) (low + 256 * rest) ≡ byte_at i rest
byte_above i low rest fits =
    let above : (low + 256 * rest) / 256 ≡ rest = omega (arith, fits) in
    ap (λ (power : ℕ). (low + 256 * rest) / power % 256) (pow-succ' 256 i)
    ∙ ap (λ (x : ℕ). x % 256) (sym (div-div-eq-div-mul (low + 256 * rest) 256 (256 ^ i)))
    ∙ ap (λ (x : ℕ). x / 256 ^ i % 256) above
    ∙ sym (byte_is i rest)

bytes_above : (i n low rest : ℕ) → low < 256 → bytes_low_first (suc i) n (low + 256 * rest) ≡ bytes_low_first i n rest
bytes_above i zero low rest fits = refl
bytes_above i (suc n) low rest fits =
    ap (λ (byte : ℕ). byte ∷ bytes_low_first (suc (suc i)) n (low + 256 * rest)) (byte_above i low rest fits)
    ∙ ap (λ (bytes : List ℕ). byte_at i rest ∷ bytes) (bytes_above (suc i) n low rest fits)

-- the first n bytes are those of the number that they spell,
pub front_spelled : (n : ℕ) (bytes : List ℕ) → n ≤ length bytes → AreBytes bytes → little_bytes n (little_number n bytes) ≡ take n bytes
front_spelled zero bytes long are = refl
front_spelled (suc n) [] long are = absurd (omega (arith, long))
front_spelled (suc n) (low ∷ bytes) long are =
    let fits : low < 256 = are 0 in
    let rest = little_number n bytes in
    let lowest : (low + 256 * rest) % 256 ≡ low = omega (arith, fits) in
    ap (λ (number : ℕ). little_bytes (suc n) (low + 256 * number)) (little_from-cons 0 n low bytes)
    ∙ ap (λ (byte : ℕ). byte ∷ bytes_low_first 1 n (low + 256 * rest)) lowest
    ∙ ap (λ (others : List ℕ). low ∷ others) (bytes_above 0 n low rest fits ∙ front_spelled n bytes (omega (arith, long)) (λ k. are (suc k)))

-- and these, with what follows, are all of them
pub bytes_spelled : (n : ℕ) (bytes : List ℕ) → n ≤ length bytes → AreBytes bytes → little_bytes n (little_number n bytes) ++ drop n bytes ≡ bytes
bytes_spelled n bytes long are = ap (λ (front : List ℕ). front ++ drop n bytes) (front_spelled n bytes long are) ∙ take-append-drop n bytes
