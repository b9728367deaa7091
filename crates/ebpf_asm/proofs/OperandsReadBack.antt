-- Operands that are listed are read again.
use Rattle.std.proofs.Common.{◌≡◌, ℕ, ℤ, pos, negsuc, neg_ℤ, nat_abs, suc, ◌+◌, ◌-◌, ◌<◌, ◌^◌, Bool, true, false, not, cond, ltb, eqb, List, [], ◌∷◌, ◌++◌, length, get_or, drop, take, Some, None, Result, Ok, Err, refl, ap, ◌∙◌, arith}
use lib.Signed.{mag}
use Rattle.std.specs.Prelude.{FitsSigned}
use Rattle.std.specs.Int.{w16, w32}
use Rattle.std.specs.List.{list_all, before_first, position_or_len}
use Rattle.std.specs.Str.Parse.{AllDigits}
use Rattle.std.specs.Fmt.{decimal, signed_decimal}
use Rattle.std.proofs.Math.Dec.{eqb-suc-zero}
use Rattle.std.proofs.Math.Seq.{get_or-append_seam}
use Rattle.std.proofs.lemmas.Bool.{le-leb, not-true}
use Rattle.std.proofs.lemmas.Bool.Decides.{nat_tests}
use Rattle.std.proofs.lemmas.Fmt.{decimal_is_IsNumeral}
use Rattle.std.proofs.lemmas.Str.Parse.{digit_from_value}
use Rattle.std.proofs.lemmas.List.{take_at, drop_at, get_or_append_left, get_or_at, length-append}
use Rattle.std.proofs.lemmas.List.Sums.{AllPass-from_list_all, position_or_len_is}
use Rattle.instruction_set.specs.declared.instruction.Source.{Source}
use Rattle.instruction_set.specs.declared.instruction.Source.TheVariants as sources
use Rattle.ebpf_asm.specs.declared.fault.FaultKind.{FaultKind}
use Rattle.ebpf_asm.specs.declared.fault.FaultKind.TheVariants.{Operand}
use Rattle.common_definitions.specs.Readings.{◌>>=◌}
use Rattle.ebpf_asm.specs.Fault.{read_both}
use Rattle.ebpf_asm.specs.Operand.{register_of, immediate_told, source_told, signed_of, short_of, long_of, offset_of, memory_told, distance_told, label_of, is_label_name, is_sign_byte, inside_brackets}
use Rattle.ebpf_asm.specs.Laws.{LongDistancesReadBack, ShortDistancesReadBack}
use Rattle.ebpf_asm.specs.Listing.{register_text, signed_text, source_text, memory_text}
use Rattle.ebpf_asm.proofs.NumbersReadBack.{register_again, magnitude_again, immediate_again}

-- the first place of a byte of a kind, behind a front that has none
pub place_behind : (p : ℕ → Bool) (front : List ℕ) (y : ℕ) (rest : List ℕ) → list_all (λ b. not (p b)) front ≡ true → p y ≡ true → position_or_len p (front ++ y ∷ rest) ≡ length front
place_behind p front y rest h e =
    position_or_len_is p (front ++ y ∷ rest) (length front) 0 (omega (arith, length-append front (y ∷ rest)))
    (λ k inside. ap p (get_or_append_left front (y ∷ rest) 0 k inside) ∙ not-true _ (AllPass-from_list_all (λ b. not (p b)) front h k 0 inside))
    (λ _. ap p (get_or-append_seam front y rest 0) ∙ e)

-- a signed text is a sign and a decimal number
abbrev sign_of : ℤ → ℕ
sign_of (pos n) = 43
sign_of (negsuc n) = 45

not_below_zero : (n : ℕ) → ltb n 0 ≡ false
not_below_zero n = grind (arith, nat_tests)

pub signed_text-parts : (z : ℤ) → signed_text z ≡ sign_of z ∷ decimal (nat_abs z)
signed_text-parts (pos n) = rw (not_below_zero n) refl
signed_text-parts (negsuc n) = refl

signed_again : (z : ℤ) → mag z + 1 < 2 ^ 64 → signed_of (signed_text z) ≡ Ok z
unfolding signed_of
signed_again (pos n) small = ap signed_of (signed_text-parts (pos n)) ∙ ap (λ r. r >>= λ m. Ok (pos m)) (magnitude_again n (omega arith))
signed_again (negsuc n) small = ap (λ r. r >>= λ m. Ok (neg_ℤ (pos m))) (magnitude_again (suc n) (omega arith))

pub short_again : (z : ℤ) → FitsSigned w16 z → short_of z ≡ Ok z
short_again (pos n) fits = rw (le-leb n 32767 (omega (arith, fits.sfits))) refl
short_again (negsuc n) fits = rw (le-leb n 32767 (omega (arith, fits.sfits))) refl

pub long_again : (z : ℤ) → FitsSigned w32 z → long_of z ≡ Ok z
long_again (pos n) fits = rw (le-leb n 2147483647 (omega (arith, fits.sfits))) refl
long_again (negsuc n) fits = rw (le-leb n 2147483647 (omega (arith, fits.sfits))) refl

sign_is_sign : (z : ℤ) → is_sign_byte (sign_of z) ≡ true
sign_is_sign (pos n) = refl
sign_is_sign (negsuc n) = refl

sign_is_no_label : (z : ℤ) (rest : List ℕ) → is_label_name (sign_of z ∷ rest) ≡ false
sign_is_no_label (pos n) rest = refl
sign_is_no_label (negsuc n) rest = refl

pub no_label : (z : ℤ) → label_of (signed_text z) ≡ None
no_label z = ap label_of (signed_text-parts z) ∙ ap (λ b. cond b (Some (sign_of z ∷ decimal (nat_abs z))) None) (sign_is_no_label z (decimal (nat_abs z)))

pub distance_again : (in_field : ℤ → Result ℤ FaultKind) (z : ℤ) → mag z + 1 < 2 ^ 64 → in_field z ≡ Ok z → distance_told in_field (signed_text z) ≡ Ok z
unfolding distance_told
distance_again in_field z small fits =
    ap (λ b. cond b (signed_of (signed_text z) >>= in_field) (cond (is_label_name (signed_text z)) (Ok (pos 0)) (Err Operand))) (ap (λ t. is_sign_byte (get_or t 0 0)) (signed_text-parts z) ∙ sign_is_sign z)
    ∙ ap (λ r. r >>= in_field) (signed_again z small) ∙ fits

pub short_distance_again : ShortDistancesReadBack
short_distance_again z fits = distance_again short_of z (omega (arith, fits.sfits)) (short_again z fits)

pub long_distance_again : LongDistancesReadBack
long_distance_again z fits = distance_again long_of z (omega (arith, fits.sfits)) (long_again z fits)

offset_again : (z : ℤ) → FitsSigned w16 z → offset_of (signed_text z) ≡ Ok z
unfolding offset_of
offset_again z fits =
    ap (λ b. cond b (Ok (pos 0)) (signed_of (signed_text z) >>= short_of)) (ap (λ t. eqb (length t) 0) (signed_text-parts z) ∙ eqb-suc-zero (length (decimal (nat_abs z))))
    ∙ ap (λ r. r >>= short_of) (signed_again z (omega (arith, fits.sfits))) ∙ short_again z fits

-- ---- registers and sources

-- a source that an instruction can have
abbrev pub IsSource : Source → Type 0
IsSource (sources.Immediate z) = FitsSigned w32 z
IsSource (sources.Register n) = n < 11

no_sign_in : (ds : List ℕ) → AllDigits 10 ds → list_all (λ b. not (is_sign_byte b)) ds ≡ true
no_sign_in [] h = refl
no_sign_in (d ∷ ds) h = let range = digit_from_value d h.0 in let one : not (is_sign_byte d) ≡ true = grind (arith, nat_tests) in rw (one, no_sign_in ds h.1) refl

no_r_first : (ds : List ℕ) → AllDigits 10 ds → eqb (get_or ds 0 0) 114 ≡ false
no_r_first [] h = refl
no_r_first (d ∷ ds) h = let range = digit_from_value d h.0 in grind (arith, nat_tests)

no_r_signed : (z : ℤ) → mag z + 1 < 2 ^ 64 → eqb (get_or (signed_decimal z) 0 0) 114 ≡ false
no_r_signed (pos n) small = no_r_first (decimal n) (decimal_is_IsNumeral n (omega arith)).0.1
no_r_signed (negsuc n) small = refl

pub immediate_source_again : (z : ℤ) → FitsSigned w32 z → source_told (source_text (sources.Immediate z)) ≡ Ok (sources.Immediate z)
unfolding source_told
immediate_source_again z fits =
    ap (λ b. cond b (register_of (signed_decimal z) >>= λ r. Ok (sources.Register r)) (immediate_told (signed_decimal z) >>= λ v. Ok (sources.Immediate v))) (no_r_signed z (omega (arith, fits.sfits)))
    ∙ ap (λ r. r >>= λ v. Ok (sources.Immediate v)) (immediate_again z fits)

pub register_source_again : (n : ℕ) → n < 11 → source_told (source_text (sources.Register n)) ≡ Ok (sources.Register n)
unfolding source_told
register_source_again n lt = ap (λ r. r >>= λ v. Ok (sources.Register v)) (register_again n lt)

-- ---- memory operands

inside_again : (inside : List ℕ) → inside_brackets (91 ∷ inside ++ 93 ∷ []) ≡ Ok inside
inside_again inside =
    let text = 91 ∷ inside ++ 93 ∷ [] in
    let long : length text ≡ length inside + 2 = omega (arith, length-append (91 ∷ inside) (93 ∷ [])) in
    let last : get_or text (length text - 1) 0 ≡ 93 = get_or_at (91 ∷ inside) 93 [] 0 (length text - 1) (omega (arith, long)) in
    let front : take (length text - 2) (inside ++ 93 ∷ []) ≡ inside = take_at inside (93 ∷ []) (length text - 2) (omega (arith, long)) in
    ap (λ b. cond (eqb b 93) (Ok (take (length text - 2) (inside ++ 93 ∷ []))) (Err Operand)) last ∙ ap (λ (t : List ℕ). Ok t) front

pub memory_again : (base : ℕ) (z : ℤ) → base < 11 → FitsSigned w16 z → memory_told (memory_text base z) ≡ Ok (base, z)
unfolding memory_told
memory_again base z lt fits =
    let d = decimal_is_IsNumeral base (omega arith) in
    let no_sign : list_all (λ b. not (is_sign_byte b)) (register_text base) ≡ true = no_sign_in (decimal base) d.0.1 in
    let split : register_text base ++ signed_text z ≡ register_text base ++ sign_of z ∷ decimal (nat_abs z) = ap (λ t. register_text base ++ t) (signed_text-parts z) in
    let place : position_or_len is_sign_byte (register_text base ++ signed_text z) ≡ length (register_text base) = ap (position_or_len is_sign_byte) split ∙ place_behind is_sign_byte (register_text base) (sign_of z) (decimal (nat_abs z)) no_sign (sign_is_sign z) in
    let front : before_first is_sign_byte (register_text base ++ signed_text z) ≡ register_text base = ap (λ n. take n (register_text base ++ signed_text z)) place ∙ take_at (register_text base) (signed_text z) _ refl in
    let back : drop (position_or_len is_sign_byte (register_text base ++ signed_text z)) (register_text base ++ signed_text z) ≡ signed_text z = ap (λ n. drop n (register_text base ++ signed_text z)) place ∙ drop_at (register_text base) (signed_text z) _ refl in
    ap (λ r. r >>= λ inside. read_both (register_of (before_first is_sign_byte inside)) (offset_of (drop (position_or_len is_sign_byte inside) inside))) (inside_again (register_text base ++ signed_text z))
    ∙ ap (λ t. read_both (register_of t) (offset_of (drop (position_or_len is_sign_byte (register_text base ++ signed_text z)) (register_text base ++ signed_text z)))) front
    ∙ ap (λ t. read_both (register_of (register_text base)) (offset_of t)) back
    ∙ ap (λ r. read_both r (offset_of (signed_text z))) (register_again base lt) ∙ ap (read_both (Ok base)) (offset_again z fits)
