-- What an operation makes of numbers within bounds is within the bounds that its rule gives.
use Rattle.std.proofs.Common.{ℕ, pos, ◌≡◌, ◌+◌, ◌-◌, ◌*◌, ◌/◌, ◌%◌, ◌^◌, ◌<◌, ◌≤◌, min, Bool, true, false, cond, sym, subst, arith}
use Rattle.std.proofs.Math.Nat.{div-le_self, mod-eq_of_lt, mod-le}
use Rattle.std.proofs.lemmas.Bool.{cond_both, ltb-true, leb-true, eqb-true, eqb-false, and_parts}
use Rattle.std.proofs.lemmas.Nat.{and_le_l, and_le_r, mod_below, mul-le, pow_pos, shr_le}
use Rattle.std.specs.Prelude.{◌==◌, ◌&&◌, nat_lt, nat_le, bit_and, bit_or, bit_xor}
use Rattle.std.proofs.Math.Pow.{shr_mono}
use Rattle.std.proofs.lemmas.Int.{to_z_pos}
use Rattle.std.specs.Int.{w32, w64}
use Rattle.instruction_set.specs.declared.operation.Operation.{Operation}
use Rattle.instruction_set.specs.declared.operation.Operation.TheVariants.{Add, Subtract, Multiply, Divide, SignedDivide, Or, And, LeftShift, RightShift, Modulo, SignedModulo, Xor, Move, ArithmeticShift}
use Rattle.instruction_set.specs.declared.operation.Width.{Width}
use Rattle.instruction_set.specs.declared.operation.Width.TheVariants.{Bits32, Bits64}
use Rattle.program_meaning.specs.Word.{bits, count, result_of, signed}
use Rattle.program_meaning.proofs.Proved.{operations_keep_width}
use Rattle.interval_domain.proofs.Numbers.{quotient_grows, wraps_once}
use Rattle.interval_domain.specs.Fact.{IsInBounds, is_single, range, single}
use Rattle.interval_domain.specs.Range.{number_count, half, top, sum, difference, product, quotient, remainder, if_unsigned, conjunction, shifted_left, shifted_left_by, shifted_right, shifted_right_by, combined}
use Rattle.word_domain.specs.declared.bounds.Bounds.{Bounds}

-- the bounds that a test chooses are right where both are
pub either : (test : Bool) (b c : Bounds) (n : ℕ) → (test ≡ true → IsInBounds b n) → (test ≡ false → IsInBounds c n)
    → IsInBounds (cond test b c) n
either test b c n when unless = cond_both test b c (λ chosen. IsInBounds chosen n) when unless

pub top_law : (w : Width) (n : ℕ) → n < number_count w → IsInBounds (top w) n
top_law w n fits = (omega arith, omega arith)

pub wrapped_law : (w : Width) (n : ℕ) → IsInBounds (top w) (n % number_count w)
wrapped_law w n = top_law w (n % number_count w) (mod_below n (number_count w) (pow_pos (bits w)))

sum_law : (w : Width) (d s : Bounds) (x y : ℕ) → IsInBounds d x → IsInBounds s y → x < number_count w → y < number_count w
    → IsInBounds (sum w d s) (result_of w Add x y)
sum_law w d s x y hd hs fx fy =
    either (nat_lt (d.high + s.high) (number_count w)) _ _ ((x + y) % number_count w)
    (λ fits.
    let below = ltb-true (d.high + s.high) (number_count w) fits in
    rw (mod-eq_of_lt {n = x + y} {m = number_count w} (omega arith)) (omega arith, omega arith))
    (λ _. either (nat_le (number_count w) (d.low + s.low)) _ _ ((x + y) % number_count w)
    (λ wraps.
    let above = leb-true (number_count w) (d.low + s.low) wraps in
    rw (wraps_once (number_count w) (x + y) (omega arith) (omega arith)) (omega arith, omega arith))
    (λ _. wrapped_law w (x + y)))

difference_law : (w : Width) (d s : Bounds) (x y : ℕ) → IsInBounds d x → IsInBounds s y → x < number_count w → y < number_count w
    → IsInBounds (difference w d s) (result_of w Subtract x y)
difference_law w d s x y hd hs fx fy =
    either (nat_le s.high d.low) _ _ ((x + (number_count w - y)) % number_count w)
    (λ fits.
    let below = leb-true s.high d.low fits in
    rw (wraps_once (number_count w) (x + (number_count w - y)) (omega arith) (omega arith)) (omega arith, omega arith))
    (λ _. either (nat_lt d.high s.low) _ _ ((x + (number_count w - y)) % number_count w)
    (λ wraps.
    let above = ltb-true d.high s.low wraps in
    rw (mod-eq_of_lt {n = x + (number_count w - y)} {m = number_count w} (omega arith)) (omega arith, omega arith))
    (λ _. wrapped_law w (x + (number_count w - y))))

product_law : (w : Width) (d s : Bounds) (x y : ℕ) → IsInBounds d x → IsInBounds s y
    → IsInBounds (product w d s) (result_of w Multiply x y)
product_law w d s x y hd hs =
    either (nat_lt (d.high * s.high) (number_count w)) _ _ ((x * y) % number_count w)
    (λ fits.
    let below = ltb-true (d.high * s.high) (number_count w) fits in
    let most = mul-le x y d.high s.high hd.1 hs.1 in
    let least = mul-le d.low s.low x y hd.0 hs.0 in
    rw (mod-eq_of_lt {n = x * y} {m = number_count w} (omega (arith, most))) (least, most))
    (λ _. wrapped_law w (x * y))

divided_below : (x y : ℕ) → (cond (y == 0) 0 (x / y)) ≤ x
divided_below x y = cond_both (y == 0) 0 (x / y) (λ q. q ≤ x) (λ _. omega arith) (λ _. div-le_self x y)

quotient_law : (d s : Bounds) (x y : ℕ) → IsInBounds d x → IsInBounds s y → IsInBounds (quotient d s) (cond (y == 0) 0 (x / y))
quotient_law d s x y hd hs =
    either (s.high == 0) _ _ (cond (y == 0) 0 (x / y))
    (λ zero_divisor.
    let none = eqb-true s.high 0 zero_divisor in
    cond_both (y == 0) 0 (x / y) (λ q. IsInBounds (single 0) q)
    (λ _. (omega arith, omega arith))
    (λ some. absurd (eqb-false y 0 some (omega arith))))
    (λ _. either (nat_le 1 s.low) _ _ (cond (y == 0) 0 (x / y))
    (λ some.
    let least = leb-true 1 s.low some in
    cond_both (y == 0) 0 (x / y) (λ q. IsInBounds (range (d.low / s.high) (d.high / s.low)) q)
    (λ none. let is = eqb-true y 0 none in absurd (omega arith))
    (λ _. (
      quotient_grows d.low s.high x y hd.0 hs.1 (omega arith),
      quotient_grows x y d.high s.low hd.1 hs.0 (omega arith),
    )))
    (λ _. let below = divided_below x y in (omega arith, omega (arith, below))))

remainder_of_below : (x y : ℕ) → (cond (y == 0) x (x % y)) ≤ x
remainder_of_below x y = cond_both (y == 0) x (x % y) (λ r. r ≤ x) (λ _. omega arith) (λ _. mod-le x y)

remainder_law : (d s : Bounds) (x y : ℕ) → IsInBounds d x → IsInBounds s y → IsInBounds (remainder d s) (cond (y == 0) x (x % y))
remainder_law d s x y hd hs =
    let below = remainder_of_below x y in
    either (nat_le 1 s.low && nat_lt d.high s.low) _ _ (cond (y == 0) x (x % y))
    (λ smaller.
    let less = ltb-true d.high s.low (and_parts (nat_le 1 s.low) (nat_lt d.high s.low) smaller).1 in
    cond_both (y == 0) x (x % y) (λ r. IsInBounds d r)
    (λ _. hd)
    (λ _. rw (mod-eq_of_lt {n = x} {m = y} (omega arith)) hd))
    (λ _. either (nat_le 1 s.low) _ _ (cond (y == 0) x (x % y))
    (λ some.
    let least = leb-true 1 s.low some in
    cond_both (y == 0) x (x % y) (λ r. IsInBounds (range 0 (min d.high (s.high - 1))) r)
    (λ none. let is = eqb-true y 0 none in absurd (omega arith))
    (λ _. let small = mod_below x y (omega arith) in let less = mod-le x y in (omega arith, omega (arith, small, less))))
    (λ _. (omega arith, omega (arith, below))))

-- a number below the half is its own signed value
signed_is : (w : Width) (x : ℕ) → x < half w → signed w x ≡ pos x
signed_is Bits32 x h = to_z_pos w32 x h
signed_is Bits64 x h = to_z_pos w64 x h

both_signed : (w : Width) (d s : Bounds) (x y : ℕ) → IsInBounds d x → IsInBounds s y
    → (nat_lt d.high (half w) && nat_lt s.high (half w)) ≡ true → (signed w x ≡ pos x) × (signed w y ≡ pos y)
both_signed w d s x y hd hs unsigned =
    let both = and_parts (nat_lt d.high (half w)) (nat_lt s.high (half w)) unsigned in
    let dst = ltb-true d.high (half w) both.0 in
    let source = ltb-true s.high (half w) both.1 in
    (signed_is w x (omega arith), signed_is w y (omega arith))

-- a rule for numbers without a sign serves signed ones
if_unsigned_law : (w : Width) (d s b : Bounds) (x y n : ℕ) → IsInBounds d x → IsInBounds s y → n < number_count w
    → (signed w x ≡ pos x → signed w y ≡ pos y → IsInBounds b n) → IsInBounds (if_unsigned w d s b) n
if_unsigned_law w d s b x y n hd hs fits law =
    either (nat_lt d.high (half w) && nat_lt s.high (half w)) _ _ n
    (λ unsigned. let are = both_signed w d s x y hd hs unsigned in law are.0 are.1)
    (λ _. top_law w n fits)

signed_quotient_law : (w : Width) (d s : Bounds) (x y : ℕ) → IsInBounds d x → IsInBounds s y → x < number_count w → y < number_count w
    → IsInBounds (if_unsigned w d s (quotient d s)) (result_of w SignedDivide x y)
signed_quotient_law w d s x y hd hs fx fy =
    if_unsigned_law w d s (quotient d s) x y (result_of w SignedDivide x y) hd hs (operations_keep_width w SignedDivide x y fx fy)
    (λ dst source. rw (dst, source) (quotient_law d s x y hd hs))

signed_remainder_law : (w : Width) (d s : Bounds) (x y : ℕ) → IsInBounds d x → IsInBounds s y → x < number_count w → y < number_count w
    → IsInBounds (if_unsigned w d s (remainder d s)) (result_of w SignedModulo x y)
signed_remainder_law w d s x y hd hs fx fy =
    if_unsigned_law w d s (remainder d s) x y (result_of w SignedModulo x y) hd hs (operations_keep_width w SignedModulo x y fx fy)
    (λ dst source. rw (dst, source) (remainder_law d s x y hd hs))

conjunction_law : (d s : Bounds) (x y : ℕ) → IsInBounds d x → IsInBounds s y → IsInBounds (conjunction d s) (bit_and x y)
conjunction_law d s x y hd hs =
    let first = and_le_l x y in
    let second = and_le_r x y in
    (omega arith, omega (arith, first, second))

-- the word of a single source
pub known : (s : Bounds) (y : ℕ) → IsInBounds s y → is_single s ≡ true → y ≡ s.low
known s y hs one = let e = eqb-true s.low s.high one in omega arith

shifted_left_by_law : (w : Width) (c : ℕ) (d : Bounds) (x : ℕ) → IsInBounds d x
    → IsInBounds (shifted_left_by w c d) ((x * 2 ^ c) % number_count w)
shifted_left_by_law w c d x hd = product_law w d (single (2 ^ c)) x (2 ^ c) hd (omega arith, omega arith)

shifted_left_law : (w : Width) (d s : Bounds) (x y : ℕ) → IsInBounds d x → IsInBounds s y
    → IsInBounds (shifted_left w d s) (result_of w LeftShift x y)
shifted_left_law w d s x y hd hs =
    either (is_single s) _ _ (result_of w LeftShift x y)
    (λ one. subst (λ n. IsInBounds (shifted_left_by w (count w s.low) d) (result_of w LeftShift x n)) (sym (known s y hs one))
    (shifted_left_by_law w (count w s.low) d x hd))
    (λ _. wrapped_law w (x * 2 ^ count w y))

shifted_right_law : (w : Width) (d s : Bounds) (x y : ℕ) → IsInBounds d x → IsInBounds s y
    → IsInBounds (shifted_right w d s) (result_of w RightShift x y)
shifted_right_law w d s x y hd hs =
    either (is_single s) _ _ (result_of w RightShift x y)
    (λ one. subst (λ n. IsInBounds (shifted_right_by (count w s.low) d) (result_of w RightShift x n)) (sym (known s y hs one))
    (shr_mono (count w s.low) hd.0, shr_mono (count w s.low) hd.1))
    (λ _. let below = shr_le x (count w y) in (omega arith, omega (arith, below)))

arithmetic_shift_law : (w : Width) (d s : Bounds) (x y : ℕ) → IsInBounds d x → IsInBounds s y → x < number_count w → y < number_count w
    → IsInBounds (combined w ArithmeticShift d s) (result_of w ArithmeticShift x y)
arithmetic_shift_law w d s x y hd hs fx fy =
    either (nat_lt d.high (half w)) _ _ (result_of w ArithmeticShift x y)
    (λ unsigned.
    let below = ltb-true d.high (half w) unsigned in
    rw (signed_is w x (omega arith)) (shifted_right_law w d s x y hd hs))
    (λ _. top_law w (result_of w ArithmeticShift x y) (operations_keep_width w ArithmeticShift x y fx fy))

pub combined_law : (w : Width) (operation : Operation) (d s : Bounds) (x y : ℕ) → IsInBounds d x → IsInBounds s y
    → x < number_count w → y < number_count w → IsInBounds (combined w operation d s) (result_of w operation x y)
combined_law w Add d s x y hd hs fx fy = sum_law w d s x y hd hs fx fy
combined_law w Subtract d s x y hd hs fx fy = difference_law w d s x y hd hs fx fy
combined_law w Multiply d s x y hd hs fx fy = product_law w d s x y hd hs
combined_law w Divide d s x y hd hs fx fy = quotient_law d s x y hd hs
combined_law w SignedDivide d s x y hd hs fx fy = signed_quotient_law w d s x y hd hs fx fy
combined_law w Or d s x y hd hs fx fy = top_law w (bit_or x y) (operations_keep_width w Or x y fx fy)
combined_law w And d s x y hd hs fx fy = conjunction_law d s x y hd hs
combined_law w LeftShift d s x y hd hs fx fy = shifted_left_law w d s x y hd hs
combined_law w RightShift d s x y hd hs fx fy = shifted_right_law w d s x y hd hs
combined_law w Modulo d s x y hd hs fx fy = remainder_law d s x y hd hs
combined_law w SignedModulo d s x y hd hs fx fy = signed_remainder_law w d s x y hd hs fx fy
combined_law w Xor d s x y hd hs fx fy = top_law w (bit_xor x y) (operations_keep_width w Xor x y fx fy)
combined_law w Move d s x y hd hs fx fy = hs
combined_law w ArithmeticShift d s x y hd hs fx fy = arithmetic_shift_law w d s x y hd hs fx fy
