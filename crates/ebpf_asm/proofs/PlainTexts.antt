-- The texts that lines of a listing are made of: of plain bytes, and cut again where they were joined.
use Rattle.std.proofs.Common.{◌≡◌, ℕ, ℤ, pos, negsuc, zero, suc, ◌+◌, ◌-◌, ◌<◌, ◌≤◌, ◌^◌, Bool, true, false, not, ◌&&◌, ◌||◌, cond, ltb, eqb, List, [], ◌∷◌, ◌++◌, length, drop, take, map, replicate, Some, None, refl, sym, ap, ◌∙◌, subst, append_assoc, arith}
use lib.Signed.{mag}
use Rattle.std.specs.List.{AllByRecursion, list_all, before_first, after_first, position_or_len}
use Rattle.std.specs.Char.{digit_value, is_ascii}
use Rattle.std.specs.Str.Parse.{AllDigits}
use Rattle.std.specs.Fmt.{decimal, signed_decimal, digits}
use Rattle.std.proofs.lemmas.Bool.{and_parts, le-ltb, lt-ltb, not-true}
use Rattle.std.proofs.lemmas.Bool.Decides.{nat_tests}
use Rattle.std.proofs.lemmas.List.{take_at, drop_at, append-nil, length-append}
use Rattle.std.proofs.lemmas.List.Elements.{All-weaker}
use Rattle.std.proofs.lemmas.List.Folds.{list_all-append}
use Rattle.std.proofs.lemmas.List.Sums.{AllPass-from_list_all, list_all-from_AllPass, position_or_len_is}
use Rattle.std.proofs.lemmas.Fmt.{decimal_is_IsNumeral, digits_is_IsNumeral}
use Rattle.text_lines.specs.Cut.{cut_at, is_blank_byte, parts_at, trimmed, without_end_blanks, without_first_blanks}
use Rattle.ebpf_asm.specs.Statement.{operands_of}
use Rattle.ebpf_asm.specs.Listing.{further_texts, operands_text, register_text, signed_text, memory_text, wide_text}
use Rattle.text_lines.proofs.Proved.{cut_is_after_first_part, without_first_blanks-cons, without_end_blanks-cons, uncut_is_one_part}
use Rattle.ebpf_asm.proofs.OperandsReadBack.{place_behind, signed_text-parts}

-- bytes of mnemonics and operands
abbrev pub is_plain : ℕ → Bool
is_plain b = ltb 42 b && (ltb b 127 && (not (eqb b 44) && (not (eqb b 58) && not (eqb b 59))))

-- and the blanks and commas between them
abbrev pub is_inline : ℕ → Bool
is_inline b = is_plain b || (eqb b 32 || eqb b 44)

pub weaker : (p q : ℕ → Bool) → ((b : ℕ) → p b ≡ true → q b ≡ true) → (xs : List ℕ) → list_all p xs ≡ true → list_all q xs ≡ true
weaker p q imp xs h = list_all-from_AllPass q xs (All-weaker (λ b. p b ≡ true) (λ b. q b ≡ true) imp xs (AllPass-from_list_all p xs h))

pub plain_inline : (b : ℕ) → is_plain b ≡ true → is_inline b ≡ true
plain_inline b h = rw h refl

plain_no_comma : (b : ℕ) → is_plain b ≡ true → not (eqb b 44) ≡ true
plain_no_comma b h = grind (arith, nat_tests)

pub plain_no_blank : (b : ℕ) → is_plain b ≡ true → not (is_blank_byte b) ≡ true
plain_no_blank b h = grind (arith, nat_tests)

pub inline_ascii : (b : ℕ) → is_inline b ≡ true → is_ascii b ≡ true
inline_ascii b h = grind (arith, nat_tests)

pub inline_no_semicolon : (b : ℕ) → is_inline b ≡ true → not (eqb b 59) ≡ true
inline_no_semicolon b h = grind (arith, nat_tests)

pub inline_no_colon : (b : ℕ) → is_inline b ≡ true → not (eqb b 58) ≡ true
inline_no_colon b h = grind (arith, nat_tests)

pub inline_no_newline : (b : ℕ) → is_inline b ≡ true → not (eqb b 10) ≡ true
inline_no_newline b h = grind (arith, nat_tests)

pub inline_no_return : (b : ℕ) → is_inline b ≡ true → not (eqb b 13) ≡ true
inline_no_return b h = grind (arith, nat_tests)

-- ---- the operands are plain

abbrev pub IsPlain : List ℕ → Type 0
IsPlain text = list_all is_plain text ≡ true

plain_digit : (d : ℕ) → digit_value d < 16 → is_plain d ≡ true
plain_digit d h = grind (arith, nat_tests)

plain_digits : (radix : ℕ) (ds : List ℕ) → radix ≤ 16 → AllDigits radix ds → IsPlain ds
plain_digits radix [] most h = refl
plain_digits radix (d ∷ ds) most h = rw (plain_digit d (omega (arith, most, h.0)), plain_digits radix ds most h.1) refl

plain_decimal : (n : ℕ) → n < 2 ^ 64 → IsPlain (decimal n)
plain_decimal n small = plain_digits 10 (decimal n) (omega arith) (decimal_is_IsNumeral n small).0.1

plain_zeros : (k : ℕ) → IsPlain (replicate k 48)
plain_zeros zero = refl
plain_zeros (suc k) = plain_zeros k

-- bytes that pass a test, behind others that pass it
pub append_passes : (test : ℕ → Bool) (xs ys : List ℕ) → list_all test xs ≡ true → list_all test ys ≡ true → list_all test (xs ++ ys) ≡ true
append_passes test xs ys h g = list_all-append test xs ys ∙ rw (h, g) refl

-- a text that is not empty, of bytes that no blank or separator is
pub record IsText (text : List ℕ) : Type 0 where
  pub bytes : IsPlain text
  pub some : 0 < length text

pub register_is_text : (n : ℕ) → n < 11 → IsText (register_text n)
register_is_text n lt = record { bytes = plain_decimal n (omega arith); some = omega arith }

pub signed_decimal_is_text : (z : ℤ) → mag z + 1 < 2 ^ 64 → IsText (signed_decimal z)
signed_decimal_is_text (pos n) small = record { bytes = plain_decimal n (omega arith); some = (decimal_is_IsNumeral n (omega arith)).0.0 }
signed_decimal_is_text (negsuc n) small = record { bytes = plain_decimal (suc n) (omega arith); some = omega arith }

pub signed_text_is_text : (z : ℤ) → mag z + 1 < 2 ^ 64 → IsText (signed_text z)
signed_text_is_text (pos n) small = subst IsText (sym (signed_text-parts (pos n))) (record { bytes = plain_decimal n (omega arith); some = omega arith })
signed_text_is_text (negsuc n) small = record { bytes = plain_decimal (suc n) (omega arith); some = omega arith }

pub memory_is_text : (base : ℕ) (z : ℤ) → base < 11 → mag z + 1 < 2 ^ 64 → IsText (memory_text base z)
memory_is_text base z lt small =
    let inside = register_text base ++ signed_text z in
    record { bytes = append_passes is_plain (91 ∷ inside) (93 ∷ []) (append_passes is_plain (register_text base) (signed_text z) (register_is_text base lt).bytes (signed_text_is_text z small).bytes) refl; some = omega arith }

pub wide_is_text : (value : ℕ) → value < 2 ^ 64 → IsText (wide_text value)
wide_is_text value small =
    let ds = digits 16 false value in
    let d = digits_is_IsNumeral 16 false (omega arith) (omega arith) value (omega arith) in
    record { bytes = append_passes is_plain (replicate (16 - length ds) 48) ds (plain_zeros (16 - length ds)) (plain_digits 16 ds (omega arith) d.0.1); some = omega arith }

-- ---- places

place_none : (p : ℕ → Bool) (xs : List ℕ) → list_all (λ b. not (p b)) xs ≡ true → position_or_len p xs ≡ length xs
place_none p xs h =
    position_or_len_is p xs (length xs) 0 (omega arith) (λ k inside. not-true _ (AllPass-from_list_all (λ b. not (p b)) xs h k 0 inside)) (λ inside. absurd (omega (arith, inside)))

pub cut_none : (byte : ℕ) (text : List ℕ) → list_all (λ b. not (eqb b byte)) text ≡ true → cut_at byte text ≡ None
cut_none byte text h =
    ap (λ b. cond b (Some (before_first (λ c. eqb c byte) text, after_first (λ c. eqb c byte) text)) None) (le-ltb (position_or_len (λ c. eqb c byte) text) (length text) (omega (arith, place_none (λ c. eqb c byte) text h)))

pub cut_some : (byte : ℕ) (front rest : List ℕ) → eqb byte byte ≡ true → list_all (λ b. not (eqb b byte)) front ≡ true → cut_at byte (front ++ byte ∷ rest) ≡ Some (front, rest)
cut_some byte front rest same h =
    let p = λ (c : ℕ). eqb c byte in
    let text = front ++ byte ∷ rest in
    let place = place_behind p front byte rest h same in
    let here : ltb (position_or_len p text) (length text) ≡ true = lt-ltb _ _ (omega (arith, place, length-append front (byte ∷ rest))) in
    let before : before_first p text ≡ front = ap (λ n. take n text) place ∙ take_at front (byte ∷ rest) (length front) refl in
    let long : length (front ++ byte ∷ []) ≡ length front + 1 = omega (arith, length-append front (byte ∷ [])) in
    let after : after_first p text ≡ rest = ap (λ n. drop (n + 1) text) place ∙ ap (drop (length front + 1)) (sym (append_assoc front (byte ∷ []) rest)) ∙ drop_at (front ++ byte ∷ []) rest (length front + 1) long in
    ap (λ b. cond b (Some (before_first p text, after_first p text)) None) here ∙ ap (λ (t : List ℕ). Some (t, after_first p text)) before ∙ ap (λ (t : List ℕ). Some (front, t)) after

-- ---- blanks

no_blank : (b : ℕ) → is_plain b ≡ true → is_blank_byte b ≡ false
no_blank b h = not-true (is_blank_byte b) (plain_no_blank b h)

pub first_text : (text rest : List ℕ) → IsText text → without_first_blanks (text ++ rest) ≡ text ++ rest
first_text [] rest h = absurd (omega (arith, h.some))
first_text (b ∷ text) rest h = without_first_blanks-cons b (text ++ rest) (no_blank b (and_parts (is_plain b) (list_all is_plain text) h.bytes).0)

pub end_plain : (text : List ℕ) → IsPlain text → without_end_blanks text ≡ text
end_plain [] h = refl
end_plain (b ∷ text) h =
    let parts = and_parts (is_plain b) (list_all is_plain text) h in
    without_end_blanks-cons b text (no_blank b parts.0) ∙ ap (λ t. b ∷ t) (end_plain text parts.1)

trimmed_behind_blank : (text : List ℕ) → IsText text → trimmed (32 ∷ text) ≡ text
trimmed_behind_blank text h =
    ap (λ t. without_end_blanks (without_first_blanks t)) (sym (append-nil text)) ∙ ap without_end_blanks (first_text text [] h ∙ append-nil text) ∙ end_plain text h.bytes

-- ---- operands

no_comma_text : (text : List ℕ) → IsText text → list_all (λ b. not (eqb b 44)) (32 ∷ text) ≡ true
no_comma_text text h = weaker is_plain (λ b. not (eqb b 44)) plain_no_comma text h.bytes

split_texts : (first : List ℕ) (others : List (List ℕ)) → IsText first → AllByRecursion IsText others → map trimmed (parts_at 44 (32 ∷ (first ++ further_texts others))) ≡ first ∷ others
split_texts first [] h hs =
    ap (λ t. map trimmed (parts_at 44 (32 ∷ t))) (append-nil first) ∙ ap (map trimmed) (uncut_is_one_part 44 (32 ∷ first) (cut_none 44 (32 ∷ first) (no_comma_text first h))) ∙ ap (λ t. t ∷ []) (trimmed_behind_blank first h)
split_texts first (o ∷ os) h hs =
    ap (map trimmed) (cut_is_after_first_part 44 (32 ∷ (first ++ further_texts (o ∷ os))) (32 ∷ first) (32 ∷ (o ++ further_texts os)) (cut_some 44 (32 ∷ first) (32 ∷ (o ++ further_texts os)) refl (no_comma_text first h)))
    ∙ ap (λ t. t ∷ map trimmed (parts_at 44 (32 ∷ (o ++ further_texts os)))) (trimmed_behind_blank first h)
    ∙ ap (λ ts. first ∷ ts) (split_texts o os hs.0 hs.1)

pub operands_again : (first : List ℕ) (others : List (List ℕ)) → IsText first → AllByRecursion IsText others → operands_of (operands_text (first ∷ others)) ≡ first ∷ others
unfolding operands_of
operands_again first others h hs = split_texts first others h hs
