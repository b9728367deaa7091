-- Ranks of values, and sums of values as words.
use Rattle.std.proofs.Common.{ℕ, ℤ, pos, negsuc, ◌+◌, ◌*◌, ◌/◌, ◌<◌, ◌≤◌, ◌^◌, ◌%◌, ◌≡◌, ◌+ℤ◌, ◌≤ℤ◌, List, [], ◌∷◌, refl, sym, ap, ◌∙◌, arith, lit<}
use Rattle.std.proofs.Math.Nat.{mod-lt}
use Rattle.std.proofs.lemmas.Int.{ints, int_rem_euclid_is}
use Rattle.std.proofs.lemmas.List.Sums.{sum_by-cons}
use Rattle.std.specs.Int.{w64, cast_unsigned, int_rem_euclid}
use Rattle.std.specs.List.{AllByRecursion, sum_by}
use Rattle.common_definitions.specs.Bytes.{AreBytes}
use Rattle.record_questions.proofs.Numbers.{value_is_number}
use Rattle.record_questions.specs.declared.question.Sign.{Sign}
use Rattle.record_questions.specs.declared.question.Sign.TheVariants.{Unsigned, Signed}
use Rattle.record_questions.specs.declared.question.Field.{Field}
use Rattle.record_questions.specs.declared.question.Tally.TheVariants.{Sum}
use Rattle.record_questions.specs.Asked.{IsNumber}
use Rattle.record_questions.specs.Question.{number_in, value_of}
use Rattle.record_questions.specs.Tallies.{rank_in, rank_of, tally_from, total_of, value_at, word_in}

-- ---- ranks

-- a word with 2^63 added, where the sign says so
abbrev pub rank_word : Sign → ℕ → ℕ
rank_word Unsigned word = word
rank_word Signed word = (word + 2 ^ 63) % 2 ^ 64

pub rank_word_is : (sign : Sign) (z : ℤ) → IsNumber sign z → rank_word sign (cast_unsigned w64 z) ≡ rank_of sign z
rank_word_is Unsigned (pos n) is = refl
rank_word_is Unsigned (negsuc n) is = let a = is.0 in absurd (omega (arith, ints, a))
rank_word_is Signed (pos n) is = let a = is.1 in omega (arith, ints, a)
rank_word_is Signed (negsuc n) is = let a = is.0 in omega (arith, ints, a)

pub rank_fits : (sign : Sign) (z : ℤ) → IsNumber sign z → rank_of sign z < 2 ^ 64
rank_fits Unsigned (pos n) is = let a = is.1 in omega (arith, ints, a)
rank_fits Unsigned (negsuc n) is = let a = is.0 in absurd (omega (arith, ints, a))
rank_fits Signed (pos n) is = let a = is.1 in omega (arith, ints, a)
rank_fits Signed (negsuc n) is = let a = is.0 in omega (arith, ints, a)

pub rank_in_fits : (f : Field) (r : List ℕ) → AreBytes r → rank_in f r < 2 ^ 64
rank_in_fits f r are = rank_fits f.sign (value_of f r) (value_is_number f r are)

-- the value with the rank of another is that one
pub value_again : (sign : Sign) (z : ℤ) → IsNumber sign z → z ≡ value_at sign (rank_of sign z)
value_again Unsigned (pos n) is = refl
value_again Unsigned (negsuc n) is = let a = is.0 in absurd (omega (arith, ints, a))
value_again Signed (pos n) is = let a = is.1 in omega (arith, ints, a)
value_again Signed (negsuc n) is = let a = is.0 in omega (arith, ints, a)

pub value_below : (sign : Sign) (a b : ℕ) → a ≤ b → value_at sign a ≤ℤ value_at sign b
value_below Unsigned a b le = omega (arith, ints, le)
value_below Signed a b le = omega (arith, ints, le)

-- ---- sums

-- a value and its word are the same modulo 2^64
word_near : (sign : Sign) (z : ℤ) → IsNumber sign z → (c : ℕ) × (z +ℤ pos (c * 2 ^ 64) ≡ pos (cast_unsigned w64 z))
word_near sign (pos n) is = (0, omega (arith, ints))
word_near Unsigned (negsuc n) is = let a = is.0 in absurd (omega (arith, ints, a))
word_near Signed (negsuc n) is = let a = is.0 in (1, omega (arith, ints, a))

sum_near : (f : Field) (rs : List (List ℕ)) (word : ℕ) → AllByRecursion AreBytes rs
    → (k : ℕ) × (j : ℕ) × (pos word +ℤ total_of f rs +ℤ pos (k * 2 ^ 64) ≡ pos (tally_from (Sum f) rs word + j * 2 ^ 64))
sum_near f [] word are = (0, 0, omega (arith, ints))
sum_near f (r ∷ rs) word are =
    let near = word_near f.sign (value_of f r) (value_is_number f r are.0) in
    let x = word_in f r in
    let rest = sum_near f rs ((word + x) % 2 ^ 64) are.1 in
    let d = (word + x) / 2 ^ 64 in
    let a = near.1 in
    let b = rest.2 in
    (rest.0 + near.0, rest.1 + d, omega (arith, ints, a, b))

sum_small : (f : Field) (rs : List (List ℕ)) (word : ℕ) → word < 2 ^ 64 → tally_from (Sum f) rs word < 2 ^ 64
sum_small f [] word small = small
sum_small f (r ∷ rs) word small = sum_small f rs ((word + word_in f r) % 2 ^ 64) (mod-lt (word + word_in f r) (lit< tt))

pub sum_is : (f : Field) (rs : List (List ℕ)) → AllByRecursion AreBytes rs
    → pos (tally_from (Sum f) rs 0) ≡ int_rem_euclid (total_of f rs) (pos (2 ^ 64))
sum_is f rs are =
    let near = sum_near f rs 0 are in
    let word = tally_from (Sum f) rs 0 in
    let small = sum_small f rs 0 (lit< tt) in
    let b = near.2 in
    let e : total_of f rs +ℤ pos (near.0 * 2 ^ 64) ≡ pos (word + near.1 * 2 ^ 64) = omega (arith, ints, b) in
    let back : word ≡ (word + near.1 * 2 ^ 64) % 2 ^ 64 = omega (arith, small) in
    ap (λ (n : ℕ). pos n) back ∙ sym (int_rem_euclid_is (total_of f rs) (pos (2 ^ 64)) (2 ^ 64) near.0 (word + near.1 * 2 ^ 64) (lit< tt) refl e)

unsigned_value : (f : Field) (r : List ℕ) → f.sign ≡ Unsigned → value_of f r ≡ pos (number_in f r)
unsigned_value f r e = rw e refl

unsigned_total : (f : Field) (rs : List (List ℕ)) → f.sign ≡ Unsigned → total_of f rs ≡ pos (sum_by (number_in f) rs)
unsigned_total f [] e = refl
unsigned_total f (r ∷ rs) e =
    let a = unsigned_value f r e in
    let b = unsigned_total f rs e in
    omega (arith, ints, a, b, sum_by-cons (number_in f) r rs)

pub unsigned_sum_is : (f : Field) (rs : List (List ℕ)) → f.sign ≡ Unsigned → AllByRecursion AreBytes rs
    → tally_from (Sum f) rs 0 ≡ sum_by (number_in f) rs % 2 ^ 64
unsigned_sum_is f rs e are =
    let same : pos (tally_from (Sum f) rs 0) ≡ pos (sum_by (number_in f) rs % 2 ^ 64)
    = sum_is f rs are ∙ ap (λ (z : ℤ). int_rem_euclid z (pos (2 ^ 64))) (unsigned_total f rs e) in
    omega (arith, ints, same)
