-- What an arithmetic instruction makes of words that belong to two facts belongs to the fact that its
-- rule gives.
use Rattle.std.proofs.Common.{ℕ, ◌≡◌, ◌+◌, ◌-◌, ◌%◌, ◌^◌, ◌<◌, true, sym, ap, subst, arith}
use Rattle.std.proofs.lemmas.Bool.{ltb-true, and_parts}
use Rattle.std.proofs.lemmas.Int.{to_z_pos}
use Rattle.std.specs.Int.{w8, w16, w32}
use Rattle.std.specs.Prelude.{◌&&◌, nat_lt}
use Rattle.instruction_set.specs.declared.operation.Operation.{Operation}
use Rattle.instruction_set.specs.declared.operation.Operation.TheVariants.{Add, Subtract, Move}
use Rattle.instruction_set.specs.declared.operation.SignExtension.{SignExtension}
use Rattle.instruction_set.specs.declared.operation.SignExtension.TheVariants.{Bits8To32, Bits16To32, Bits8To64, Bits16To64, Bits32To64}
use Rattle.instruction_set.specs.declared.operation.Swap.{Swap}
use Rattle.instruction_set.specs.declared.operation.Swap.TheVariants.{ToLittle, ToBig, Reverse}
use Rattle.instruction_set.specs.declared.operation.SwapSize.{SwapSize}
use Rattle.instruction_set.specs.declared.operation.SwapSize.TheVariants as kept
use Rattle.instruction_set.specs.declared.operation.Width.{Width}
use Rattle.instruction_set.specs.declared.operation.Width.TheVariants.{Bits32, Bits64}
use Rattle.program_meaning.proofs.Proved.{low_fits, words_are_computed}
use Rattle.instruction_set.specs.Spelling.{extension_width}
use Rattle.program_meaning.specs.Word.{computed, extended, low_bits, reordered, reversed}
use Rattle.program_meaning.specs.declared.word.Arithmetic.{Arithmetic}
use Rattle.program_meaning.specs.declared.word.Arithmetic.TheVariants.{Binary, Negate, MoveSigned, SwapBytes}
use Rattle.interval_domain.proofs.FactSound.{any_law, bounds_law, constant_law, either_fact, is_word}
use Rattle.interval_domain.proofs.PointerSound.{moved_back_law, moved_on_law}
use Rattle.interval_domain.proofs.RangeSound.{combined_law, either, known, top_law, wrapped_law}
use Rattle.interval_domain.specs.Arithmetic.{sum_of, alu_of, are_known, combined_64, combined_of, cut, estimated, extended_of, is_known, operand_of, difference_of, swapped_of, unsigned_below}
use Rattle.interval_domain.specs.Fact.{ContainsWord, IsInBounds, bounds_of, is_single, single}
use Rattle.interval_domain.specs.Range.{combined, number_count}
use Rattle.word_domain.specs.declared.bounds.Bounds.{Bounds}
use Rattle.interval_domain.specs.declared.fact.Fact.{Fact}
use Rattle.interval_domain.specs.declared.fact.Fact.TheVariants.{Words, Pointer}

-- ---- operands

cut_law : (b : Bounds) (x : ℕ) → IsInBounds b x → IsInBounds (cut b) (x % 2 ^ 32)
cut_law b x within =
    either (is_single b) _ _ (x % 2 ^ 32)
    (λ one. subst (λ n. IsInBounds (single (b.low % 2 ^ 32)) (n % 2 ^ 32)) (sym (known b x within one)) (omega arith, omega arith))
    (λ _. either (nat_lt b.high (2 ^ 32)) _ _ (x % 2 ^ 32)
    (λ fits. let below = ltb-true b.high (2 ^ 32) fits in (omega arith, omega arith))
    (λ _. (omega arith, omega arith)))

operand_law : (w : Width) (f : Fact) (x : ℕ) → ContainsWord f x → IsInBounds (operand_of w f) (low_bits w x)
operand_law Bits32 f x is = cut_law (bounds_of f) x (bounds_law f x is)
operand_law Bits64 f x is = bounds_law f x is

-- ---- two operands

general_law : (w : Width) (operation : Operation) (d s : Fact) (x y : ℕ) → ContainsWord d x → ContainsWord s y
    → ContainsWord (Words (combined w operation (operand_of w d) (operand_of w s))) (computed (Binary w operation) x y)
general_law w operation d s x y hd hs = (
  combined_law w operation (operand_of w d) (operand_of w s) (low_bits w x) (low_bits w y) (operand_law w d x hd) (operand_law w s y hs)
      (low_fits w x (is_word d x hd)) (low_fits w y (is_word s y hs)),
  words_are_computed (Binary w operation) x y (is_word d x hd) (is_word s y hs),
)

sum_of_law : (d s : Fact) (x y : ℕ) → ContainsWord d x → ContainsWord s y → ContainsWord (sum_of d s) (computed (Binary Bits64 Add) x y)
sum_of_law (Words b) (Words c) x y hd hs = general_law Bits64 Add (Words b) (Words c) x y hd hs
sum_of_law (Pointer area low high) (Words c) x y hd hs = moved_on_law area low high c x y hd hs
sum_of_law (Words b) (Pointer area low high) x y hd hs =
    let turned : y + x ≡ x + y = omega arith in
    subst (λ n. ContainsWord (sum_of (Words b) (Pointer area low high)) (n % 2 ^ 64)) turned (moved_on_law area low high b y x hs hd)
sum_of_law (Pointer area low high) (Pointer area' low' high') x y hd hs =
    any_law ((x + y) % 2 ^ 64) (omega arith)

difference_of_law : (d s : Fact) (x y : ℕ) → ContainsWord d x → ContainsWord s y
    → ContainsWord (difference_of d s) (computed (Binary Bits64 Subtract) x y)
difference_of_law (Words b) (Words c) x y hd hs = general_law Bits64 Subtract (Words b) (Words c) x y hd hs
difference_of_law (Pointer area low high) (Words c) x y hd hs = moved_back_law area low high c x y hd hs
difference_of_law (Words b) (Pointer area low high) x y hd hs = any_law ((x + (2 ^ 64 - y)) % 2 ^ 64) (omega arith)
difference_of_law (Pointer area low high) (Pointer area' low' high') x y hd hs =
    any_law ((x + (2 ^ 64 - y)) % 2 ^ 64) (omega arith)

combined_64_law : (operation : Operation) (d s : Fact) (x y : ℕ) → ContainsWord d x → ContainsWord s y
    → ContainsWord (combined_64 operation d s) (computed (Binary Bits64 operation) x y)
combined_64_law Add d s x y hd hs = sum_of_law d s x y hd hs
combined_64_law Subtract d s x y hd hs = difference_of_law d s x y hd hs
combined_64_law Move d s x y hd hs = hs
combined_64_law operation d s x y hd hs = general_law Bits64 operation d s x y hd hs

combined_of_law : (w : Width) (operation : Operation) (d s : Fact) (x y : ℕ) → ContainsWord d x → ContainsWord s y
    → ContainsWord (combined_of w operation d s) (computed (Binary w operation) x y)
combined_of_law Bits32 operation d s x y hd hs = general_law Bits32 operation d s x y hd hs
combined_of_law Bits64 operation d s x y hd hs = combined_64_law operation d s x y hd hs

-- ---- one operand

-- a number without a sign is its own extension
extended_is : (extension : SignExtension) (y : ℕ) → low_bits (extension_width extension) y < unsigned_below extension
    → extended extension y ≡ low_bits (extension_width extension) y
extended_is Bits8To32 y h =
    let e : y % 2 ^ 8 ≡ y % 2 ^ 32 = omega arith in
    rw (to_z_pos w8 (y % 2 ^ 8) (omega arith)) e
extended_is Bits16To32 y h =
    let e : y % 2 ^ 16 ≡ y % 2 ^ 32 = omega arith in
    rw (to_z_pos w16 (y % 2 ^ 16) (omega arith)) e
extended_is Bits8To64 y h = rw (to_z_pos w8 (y % 2 ^ 8) (omega arith)) (omega arith)
extended_is Bits16To64 y h = rw (to_z_pos w16 (y % 2 ^ 16) (omega arith)) (omega arith)
extended_is Bits32To64 y h = rw (to_z_pos w32 (y % 2 ^ 32) (omega arith)) (omega arith)

-- an extension fits its width
extended_below : (extension : SignExtension) (y : ℕ) → y < 2 ^ 64 → extended extension y < number_count (extension_width extension)
extended_below Bits8To32 y h = grind arith
extended_below Bits16To32 y h = grind arith
extended_below Bits8To64 y h = words_are_computed (MoveSigned Bits8To64) 0 y (omega arith) h
extended_below Bits16To64 y h = words_are_computed (MoveSigned Bits16To64) 0 y (omega arith) h
extended_below Bits32To64 y h = words_are_computed (MoveSigned Bits32To64) 0 y (omega arith) h

extended_of_law : (extension : SignExtension) (s : Bounds) (y : ℕ) → y < 2 ^ 64
    → IsInBounds s (low_bits (extension_width extension) y) → IsInBounds (extended_of extension s) (extended extension y)
extended_of_law extension s y fits within =
    either (nat_lt s.high (unsigned_below extension)) _ _ (extended extension y)
    (λ unsigned.
    let below = ltb-true s.high (unsigned_below extension) unsigned in
    rw (extended_is extension y (omega arith)) within)
    (λ _. top_law (extension_width extension) (extended extension y) (extended_below extension y fits))

reversed_law : (size : SwapSize) (x : ℕ) → x < 2 ^ 64 → IsInBounds (swapped_of size) (reversed size x)
reversed_law kept.Bits16 x h = (omega arith, omega arith)
reversed_law kept.Bits32 x h = (omega arith, omega arith)
reversed_law kept.Bits64 x h = (omega arith, omega arith)

swapped_law : (swap : Swap) (size : SwapSize) (x : ℕ) → x < 2 ^ 64 → IsInBounds (swapped_of size) (reordered swap size x)
swapped_law ToLittle kept.Bits16 x h = (omega arith, omega arith)
swapped_law ToLittle kept.Bits32 x h = (omega arith, omega arith)
swapped_law ToLittle kept.Bits64 x h = (omega arith, omega arith)
swapped_law ToBig size x h = reversed_law size x h
swapped_law Reverse size x h = reversed_law size x h

-- ---- all

estimated_law : (a : Arithmetic) (d s : Fact) (x y : ℕ) → ContainsWord d x → ContainsWord s y
    → ContainsWord (estimated a d s) (computed a x y)
estimated_law (Binary w operation) d s x y hd hs = combined_of_law w operation d s x y hd hs
estimated_law (Negate w) d s x y hd hs = (wrapped_law w (number_count w - low_bits w x), words_are_computed (Negate w) x y (is_word d x hd) (is_word s y hs))
estimated_law (MoveSigned extension) d s x y hd hs = (
  extended_of_law extension (operand_of (extension_width extension) s) y (is_word s y hs) (operand_law (extension_width extension) s y hs),
  words_are_computed (MoveSigned extension) x y (is_word d x hd) (is_word s y hs),
)
estimated_law (SwapBytes swap size) d s x y hd hs =
    (swapped_law swap size x (is_word d x hd), words_are_computed (SwapBytes swap size) x y (is_word d x hd) (is_word s y hs))

is_known_word : (f : Fact) (x : ℕ) → ContainsWord f x → is_known f ≡ true → x ≡ (bounds_of f).low
is_known_word f x is one = known (bounds_of f) x (bounds_law f x is) one

-- where each operand is known, the machine's word is that of the bounds
both_known : (a : Arithmetic) (d s : Fact) (x y : ℕ) → ContainsWord d x → ContainsWord s y → (is_known d && is_known s) ≡ true
    → computed a x y ≡ computed a (bounds_of d).low (bounds_of s).low
both_known a d s x y hd hs are =
    let both = and_parts (is_known d) (is_known s) are in
    rw (is_known_word d x hd both.0, is_known_word s y hs both.1)

known_law : (a : Arithmetic) (d s : Fact) (x y : ℕ) → ContainsWord d x → ContainsWord s y → are_known a d s ≡ true
    → computed a x y ≡ computed a (bounds_of d).low (bounds_of s).low
known_law (Binary w Move) d s x y hd hs are = ap (low_bits w) (is_known_word s y hs are)
known_law (Binary w operation) d s x y hd hs are = both_known (Binary w operation) d s x y hd hs are
known_law (Negate w) d s x y hd hs are = ap (λ n. computed (Negate w) n 0) (is_known_word d x hd are)
known_law (MoveSigned extension) d s x y hd hs are = ap (extended extension) (is_known_word s y hs are)
known_law (SwapBytes swap size) d s x y hd hs are = ap (reordered swap size) (is_known_word d x hd are)

pub alu_law : (a : Arithmetic) (d s : Fact) (x y : ℕ) → ContainsWord d x → ContainsWord s y
    → ContainsWord (alu_of a d s) (computed a x y)
alu_law a d s x y hd hs =
    either_fact (are_known a d s) _ _ (computed a x y)
    (λ are.
    let is = known_law a d s x y hd hs are in
    let fits = words_are_computed a x y (is_word d x hd) (is_word s y hs) in
    subst (λ n. ContainsWord (Words (single n)) (computed a x y)) is (constant_law (computed a x y) fits))
    (λ _. estimated_law a d s x y hd hs)
