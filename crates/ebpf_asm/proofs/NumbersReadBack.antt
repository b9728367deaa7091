-- Registers and numbers that are listed are read again.
use Rattle.std.proofs.Common.{◌≡◌, ℕ, ℤ, pos, negsuc, neg_ℤ, zero, suc, ◌+◌, ◌-◌, ◌<◌, ◌^◌, false, ◌&&◌, cond, ltb, eqb, List, [], ◌∷◌, ◌++◌, length, get_or, drop, replicate, Ok, Err, refl, ap, ◌∙◌, arith}
use lib.Signed.{mag}
use Rattle.std.specs.Prelude.{FitsSigned}
use Rattle.std.specs.Int.{w32, cast_signed, cast_unsigned}
use Rattle.std.proofs.lemmas.Int.{to_z-of_z}
use Rattle.std.proofs.lemmas.Bool.Decides.{nat_tests}
use Rattle.std.proofs.lemmas.List.{length-append}
use Rattle.std.specs.List.{list_all}
use Rattle.std.specs.Char.{is_digit, digit_value}
use Rattle.std.specs.Str.Parse.{AllDigits, IsNumeral, digits_value}
use Rattle.std.specs.Fmt.{decimal, signed_decimal, digits}
use Rattle.std.proofs.Math.Bool.{and-false}
use Rattle.std.proofs.lemmas.Bool.{lt-ltb, le-leb, ne_eqb}
use Rattle.std.proofs.lemmas.Fmt.{decimal_is_IsNumeral, digits_is_IsNumeral, decimal_digit, decimal_step}
use Rattle.std.proofs.lemmas.Str.Parse.{digit_from_value}
use Rattle.text_lines.proofs.Proved.{all_digits}
use Rattle.ebpf_asm.specs.declared.fault.FaultKind.TheVariants.{Operand, OutOfRange}
use Rattle.common_definitions.specs.Readings.{◌>>=◌}
use Rattle.ebpf_asm.specs.Operand.{numeral_of, magnitude_of, literal_of, immediate_told, wide_of, in_range, register_of}
use Rattle.ebpf_asm.specs.Listing.{register_text, wide_text}

-- digits are read as the number that they write
numeral_again : (radix : ℕ) (ds : List ℕ) (n : ℕ) → IsNumeral radix ds → digits_value radix ds ≡ n → n < 2 ^ 64 → numeral_of radix ds ≡ Ok n
numeral_again radix ds n numeral value small =
    ap (λ b. cond b (Err Operand) (cond (list_all (λ byte. is_digit byte radix) ds) (cond (ltb (digits_value radix ds) (2 ^ 64)) (Ok (digits_value radix ds)) (Err OutOfRange)) (Err Operand))) (ne_eqb (length ds) 0 (omega (arith, numeral.0)))
    ∙ rw (all_digits radix ds numeral.1, value, lt-ltb n (2 ^ 64) small) refl

-- ---- registers

pub register_again : (n : ℕ) → n < 11 → register_of (register_text n) ≡ Ok n
register_again zero lt = ap (λ ds. register_of (114 ∷ ds)) (decimal_digit 0 (omega arith))
register_again (suc zero) lt = ap (λ ds. register_of (114 ∷ ds)) (decimal_digit 1 (omega arith))
register_again (suc (suc zero)) lt = ap (λ ds. register_of (114 ∷ ds)) (decimal_digit 2 (omega arith))
register_again (suc (suc (suc zero))) lt = ap (λ ds. register_of (114 ∷ ds)) (decimal_digit 3 (omega arith))
register_again (suc (suc (suc (suc zero)))) lt = ap (λ ds. register_of (114 ∷ ds)) (decimal_digit 4 (omega arith))
register_again (suc (suc (suc (suc (suc zero))))) lt = ap (λ ds. register_of (114 ∷ ds)) (decimal_digit 5 (omega arith))
register_again (suc (suc (suc (suc (suc (suc zero)))))) lt = ap (λ ds. register_of (114 ∷ ds)) (decimal_digit 6 (omega arith))
register_again (suc (suc (suc (suc (suc (suc (suc zero))))))) lt = ap (λ ds. register_of (114 ∷ ds)) (decimal_digit 7 (omega arith))
register_again (suc (suc (suc (suc (suc (suc (suc (suc zero)))))))) lt = ap (λ ds. register_of (114 ∷ ds)) (decimal_digit 8 (omega arith))
register_again (suc (suc (suc (suc (suc (suc (suc (suc (suc zero))))))))) lt = ap (λ ds. register_of (114 ∷ ds)) (decimal_digit 9 (omega arith))
register_again (suc (suc (suc (suc (suc (suc (suc (suc (suc (suc zero)))))))))) lt = ap (λ ds. register_of (114 ∷ ds)) (decimal_step 10 (omega arith) (omega arith) ∙ ap (λ ds. ds ++ 48 ∷ []) (decimal_digit 1 (omega arith)))
register_again (suc (suc (suc (suc (suc (suc (suc (suc (suc (suc (suc n))))))))))) lt = absurd (omega arith)

-- ---- decimal numbers

no_digit : (d c : ℕ) → digit_value d < 10 → 57 < c → eqb d c ≡ false
no_digit d c h over = let range = digit_from_value d h in grind (arith, nat_tests)

no_sign : (d : ℕ) → digit_value d < 10 → eqb d 45 ≡ false
no_sign d h = let range = digit_from_value d h in grind (arith, nat_tests)

no_x_second : (ds : List ℕ) → AllDigits 10 ds → eqb (get_or ds 1 0) 120 ≡ false
no_x_second [] h = refl
no_x_second (d ∷ []) h = refl
no_x_second (d ∷ e ∷ ds) h = no_digit e 120 h.1.0 (omega arith)

no_sign_first : (ds : List ℕ) → AllDigits 10 ds → eqb (get_or ds 0 0) 45 ≡ false
no_sign_first [] h = refl
no_sign_first (d ∷ ds) h = no_sign d h.0

pub magnitude_again : (n : ℕ) → n < 2 ^ 64 → magnitude_of (decimal n) ≡ Ok n
unfolding magnitude_of
magnitude_again n small =
    let d = decimal_is_IsNumeral n small in
    ap (λ b. cond b (numeral_of 16 (drop 2 (decimal n))) (numeral_of 10 (decimal n))) (ap (λ b. eqb (get_or (decimal n) 0 0) 48 && b) (no_x_second (decimal n) d.0.1) ∙ and-false (eqb (get_or (decimal n) 0 0) 48))
    ∙ numeral_again 10 (decimal n) n d.0 d.1 small

number_again : (z : ℤ) → mag z + 1 < 2 ^ 64 → literal_of (signed_decimal z) ≡ Ok z
unfolding literal_of
number_again (pos n) small =
    let d = decimal_is_IsNumeral n (omega arith) in
    ap (λ b. cond b (numeral_of 10 (drop 1 (decimal n)) >>= λ m. Ok (neg_ℤ (pos m))) (magnitude_of (decimal n) >>= λ m. Ok (pos m))) (no_sign_first (decimal n) d.0.1)
    ∙ ap (λ r. r >>= λ m. Ok (pos m)) (magnitude_again n (omega arith))
number_again (negsuc n) small =
    let d = decimal_is_IsNumeral (suc n) (omega arith) in
    ap (λ r. r >>= λ m. Ok (neg_ℤ (pos m))) (numeral_again 10 (decimal (suc n)) (suc n) d.0 d.1 (omega arith))

in_32_bits : (z : ℤ) → mag z < 2 ^ 31 → in_range (negsuc 2147483647) (pos 4294967295) z ≡ Ok z
in_32_bits (pos n) small = rw (le-leb n 4294967295 (omega arith)) refl
in_32_bits (negsuc n) small = rw (le-leb n 2147483647 (omega arith)) refl

pub immediate_again : (z : ℤ) → FitsSigned w32 z → immediate_told (signed_decimal z) ≡ Ok z
unfolding immediate_told
immediate_again z fits =
    ap (λ r. r >>= (λ n. in_range (negsuc 2147483647) (pos 4294967295) n >>= λ i. Ok (cast_signed w32 (cast_unsigned w32 i)))) (number_again z (omega (arith, fits.sfits)))
    ∙ ap (λ r. r >>= λ i. Ok (cast_signed w32 (cast_unsigned w32 i))) (in_32_bits z (omega (arith, fits.sfits)))
    ∙ ap (λ (i : ℤ). Ok i) (to_z-of_z w32 z fits)

-- ---- wide values

zeros_digits : (k : ℕ) (ds : List ℕ) → AllDigits 16 ds → AllDigits 16 (replicate k 48 ++ ds)
zeros_digits zero ds h = h
zeros_digits (suc k) ds h = (omega arith, zeros_digits k ds h)

zeros_value : (k : ℕ) (ds : List ℕ) → digits_value 16 (replicate k 48 ++ ds) ≡ digits_value 16 ds
zeros_value zero ds = refl
zeros_value (suc k) ds = zeros_value k ds

pub wide_again : (value : ℕ) → value < 2 ^ 64 → wide_of (wide_text value) ≡ Ok value
unfolding wide_of literal_of magnitude_of
wide_again value small =
    let ds = digits 16 false value in
    let k = 16 - length ds in
    let d = digits_is_IsNumeral 16 false (omega arith) (omega arith) value (omega arith) in
    let some : 0 < length (replicate k 48 ++ ds) = omega (arith, length-append (replicate k 48) ds, d.0.0) in
    let whole = numeral_again 16 (replicate k 48 ++ ds) value (some, zeros_digits k ds d.0.1) (zeros_value k ds ∙ d.1) small in
    rw (whole, le-leb value 18446744073709551615 (omega arith)) refl
