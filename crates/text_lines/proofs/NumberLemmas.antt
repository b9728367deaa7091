-- Digits, and the number that they spell.
use Rattle.std.proofs.Common.{◌≡◌, ◌≢◌, ℕ, ◌<◌, Bool, true, false, cond, ltb, List, [], ◌∷◌, length, get_or, Some, None, Result, Ok, Err, ◌^◌, ◌&&◌, refl, sym, ap, ◌∙◌, arith, rules}
use Rattle.std.specs.List.{list_all}
use Rattle.std.specs.Char.{digit_value, is_ascii_digit, is_digit}
use Rattle.std.specs.Str.{IsUtf8}
use Rattle.std.specs.Str.Parse.{AllDigits, IsNumeral, digits_value, ParsesUnsigned}
use Rattle.std.specs.Result.{IsOk, MatchResult, OkIff, result_ok}
use Rattle.std.proofs.lemmas.Bool.{and_parts, ltb-true, lt-ltb}
use Rattle.std.proofs.lemmas.Str.{IsUtf8-from_ascii}
use Rattle.std.proofs.lemmas.Fmt.{IsAscii-from_digits}
use Rattle.std.proofs.lemmas.Str.Parse.{IsNumeralModel, digit_from_value, numerals_by_value, without_leading_plus_none}
use Rattle.text_lines.specs.Number.{decimal_of, number_below}

-- digits of a radix pass the test of each
pub all_digits : (radix : ℕ) (ds : List ℕ) → AllDigits radix ds → list_all (λ byte. is_digit byte radix) ds ≡ true
all_digits radix [] all = refl
all_digits radix (d ∷ ds) all = rw (lt-ltb _ _ all.0, all_digits radix ds all.1) refl

-- and bytes that pass it are digits
told_all : (radix : ℕ) (ds : List ℕ) → list_all (λ byte. is_digit byte radix) ds ≡ true → AllDigits radix ds
told_all radix [] told = tt
told_all radix (d ∷ ds) told =
    let parts = and_parts (ltb (digit_value d) radix) (list_all (λ byte. is_digit byte radix) ds) told in
    (ltb-true (digit_value d) radix parts.0, told_all radix ds parts.1)

digits : IsNumeralModel (λ ds. list_all is_ascii_digit ds ≡ true) (digits_value 10)
digits = numerals_by_value _ (search rules)

pub IsUtf8-digits : (ds : List ℕ) → list_all is_ascii_digit ds ≡ true → IsUtf8 ds
IsUtf8-digits ds all = IsUtf8-from_ascii ds (IsAscii-from_digits ds (digits.to ds all))

none_unless : (a b c : Bool) (n : ℕ) → (a ≡ true → b ≡ true → c ≡ true → ⊥) → None ≡ cond (a && (b && c)) (Some n) None
none_unless true true true n h = absurd (h refl refl refl)
none_unless true true false n h = refl
none_unless true false c n h = refl
none_unless false b c n h = refl

-- a numeral spells its number, where that is below the bound
pub number_again : (bound radix : ℕ) (ds : List ℕ) (n : ℕ) → IsNumeral radix ds → digits_value radix ds ≡ n → n < bound → number_below bound radix ds ≡ Some n
unfolding number_below
number_again bound radix ds n numeral value small = rw (all_digits radix ds numeral.1, lt-ltb 0 (length ds) numeral.0, value, lt-ltb n bound small) refl

-- and what isn't a numeral of such a number spells none
no_number : (bound radix : ℕ) (ds : List ℕ) → ¬ (IsNumeral radix ds × (digits_value radix ds < bound)) → None ≡ number_below bound radix ds
unfolding number_below
no_number bound radix ds none =
    none_unless (list_all (λ byte. is_digit byte radix) ds) (ltb 0 (length ds)) (ltb (digits_value radix ds) bound) (digits_value radix ds)
    (λ all some small. none ((ltb-true _ _ some, told_all radix ds all), ltb-true _ _ small))

number_if : {E : Type 0} (bound radix : ℕ) (ds : List ℕ) (r : Result ℕ E) → OkIff r (IsNumeral radix ds × (digits_value radix ds < bound)) (digits_value radix ds) → result_ok r ≡ number_below bound radix ds
number_if bound radix ds (Ok n) h = ap Some h.1 ∙ sym (number_again bound radix ds (digits_value radix ds) h.0.0 refl h.0.1)
number_if bound radix ds (Err e) h = no_number bound radix ds h

-- what the library reads of a text that doesn't begin with `+`
pub number_read : {E : Type 0} (bits radix : ℕ) (ds : List ℕ) (r : Result ℕ E) → get_or ds 0 0 ≢ 43 → ParsesUnsigned bits radix ds r → result_ok r ≡ number_below (2 ^ bits) radix ds
number_read bits radix ds r none h = number_if (2 ^ bits) radix ds r (rw (without_leading_plus_none ds none) at h)

-- and of decimal digits alone
no_plus : (ds : List ℕ) → list_all is_ascii_digit ds ≡ true → get_or ds 0 0 ≢ 43
no_plus [] all = λ plus. omega arith
no_plus (d ∷ ds) all = λ plus. omega (arith, digit_from_value d (digits.to (d ∷ ds) all).0)

pub decimal_read : {E : Type 0} (ds : List ℕ) (r : Result ℕ E) → list_all is_ascii_digit ds ≡ true → ParsesUnsigned 32 10 ds r → result_ok r ≡ decimal_of ds
decimal_read ds r all h = number_read 32 10 ds r (no_plus ds all) h

-- a word of other bytes spells none
pub no_decimal : (ds : List ℕ) → list_all is_ascii_digit ds ≡ false → None ≡ decimal_of ds
no_decimal ds other = no_number (2 ^ 32) 10 ds (λ told. let both : true ≡ false = sym (digits.from ds told.0.1) ∙ other in cc)

-- reading text fails at bytes that are none alone
pub IsOk-utf8 : {X E : Type 0} (r : Result X E) (P : X → Type 0) (Q : E → Type 0) {bs : List ℕ} → IsUtf8 bs → MatchResult r P (λ e. (¬ IsUtf8 bs) × Q e) → IsOk r
IsOk-utf8 (Ok x) P Q h m = refl
IsOk-utf8 (Err e) P Q h m = absurd (m.0 h)
