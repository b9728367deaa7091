-- What the rules give of facts are facts: their bounds are in order.
use Rattle.std.proofs.Common.{ℕ, ℤ, pos, ◌≡◌, ◌+◌, ◌-◌, ◌*◌, ◌^◌, ◌≤◌, ◌+ℤ◌, ◌-ℤ◌, min, max, Bool, true, false, cond, Option, Some, None, inl, inr, arith}
use Rattle.std.proofs.Math.Pow.{shr_mono}
use Rattle.std.proofs.lemmas.Bool.{and_parts, cond_both, leb-true, ltb-false, ltb-true, or_cases, or_parts}
use Rattle.std.proofs.lemmas.Int.{ints, to_z_pos}
use Rattle.std.proofs.lemmas.Nat.{mul-le}
use Rattle.std.specs.Bool.{beq}
use Rattle.std.specs.Int.{cast_signed, int_max, int_min, w64}
use Rattle.std.specs.Ordering.{int_eq}
use Rattle.std.specs.Prelude.{◌==◌, ◌&&◌, ◌||◌, ◌≤ℤ◌, IfSome, int_le, nat_le, nat_lt, not}
use Rattle.instruction_set.specs.Spelling.{extension_width}
use Rattle.instruction_set.specs.declared.operation.Operation.{Operation}
use Rattle.instruction_set.specs.declared.operation.Operation.TheVariants.{Add, Subtract, Multiply, Divide, SignedDivide, Or, And, LeftShift, RightShift, Modulo, SignedModulo, Xor, Move, ArithmeticShift}
use Rattle.instruction_set.specs.declared.operation.Relation.{Relation}
use Rattle.instruction_set.specs.declared.operation.Relation.TheVariants.{Equal, Greater, GreaterOrEqual, AnyBitSet, NotEqual, SignedGreater, SignedGreaterOrEqual, Less, LessOrEqual, SignedLess, SignedLessOrEqual}
use Rattle.instruction_set.specs.declared.operation.SignExtension.{SignExtension}
use Rattle.instruction_set.specs.declared.operation.Size.{Size}
use Rattle.instruction_set.specs.declared.operation.Size.TheVariants.{Byte, HalfWord, Word, DoubleWord}
use Rattle.instruction_set.specs.declared.operation.SwapSize.{SwapSize}
use Rattle.instruction_set.specs.declared.operation.SwapSize.TheVariants as kept
use Rattle.instruction_set.specs.declared.operation.Width.{Width}
use Rattle.instruction_set.specs.declared.operation.Width.TheVariants.{Bits32, Bits64}
use Rattle.program_interface.specs.Area.{address_of}
use Rattle.program_interface.specs.declared.area.Area.{Area}
use Rattle.program_meaning.specs.Word.{count, is_taken}
use Rattle.program_meaning.specs.declared.word.Arithmetic.{Arithmetic}
use Rattle.program_meaning.specs.declared.word.Arithmetic.TheVariants.{Binary, Negate, MoveSigned, SwapBytes}
use Rattle.word_domain.specs.Domain.{GiveFacts}
use Rattle.word_domain.specs.declared.bounds.Bounds.{Bounds}
use Rattle.interval_domain.specs.Arithmetic.{sum_of, alu_of, are_known, combined_64, combined_of, cut, estimated, extended_of, moved_back, moved_on, operand_of, signed_bounds, difference_of, swapped_of, unsigned_below}
use Rattle.interval_domain.specs.Constants.{both_widened, constants}
use Rattle.interval_domain.specs.Edge.{FactPair, as_facts, at_most, different, edge_of, equal, exchanged, fits, is_empty, less, narrowed, refine_of, refine_words, without}
use Rattle.interval_domain.specs.Fact.{IsFact, bounds_of, farthest, full, is_single, join_of, loaded_of, pointer_to, range, widened}
use Rattle.interval_domain.specs.Intervals.{intervals}
use Rattle.interval_domain.specs.Range.{combined, difference, half, if_unsigned, number_count, product, quotient, remainder, shifted_left, shifted_left_by, shifted_right, sum}
use Rattle.interval_domain.specs.declared.fact.Fact.{Fact}
use Rattle.interval_domain.specs.declared.fact.Fact.TheVariants.{Words, Pointer}
use Rattle.interval_domain.specs.steps.Bounds.{OrderedPair}
use Rattle.interval_domain.proofs.Numbers.{quotient_grows}
use Rattle.interval_domain.proofs.PointerSound.{int_le-true, negative_is}

abbrev IsOrdered : Bounds → Type 0
IsOrdered b = b.low ≤ b.high

either_ordered : (test : Bool) (b c : Bounds) → (test ≡ true → IsOrdered b) → (test ≡ false → IsOrdered c) → IsOrdered (cond test b c)
either_ordered test b c when unless = cond_both test b c (λ chosen. IsOrdered chosen) when unless

either_is_fact : (test : Bool) (f g : Fact) → (test ≡ true → IsFact f) → (test ≡ false → IsFact g) → IsFact (cond test f g)
either_is_fact test f g when unless = cond_both test f g (λ chosen. IsFact chosen) when unless

-- ---- ranges

module _ (w : Width) (d s : Bounds) (hd : IsOrdered d) (hs : IsOrdered s) where
  sum_is : IsOrdered (sum w d s)
  sum_is =
      either_ordered (nat_lt (d.high + s.high) (number_count w)) _ _ (λ _. omega arith)
      (λ _. either_ordered (nat_le (number_count w) (d.low + s.low)) _ _ (λ _. omega arith) (λ _. omega arith))

  difference_is : IsOrdered (difference w d s)
  difference_is =
      either_ordered (nat_le s.high d.low) _ _ (λ _. omega arith)
      (λ _. either_ordered (nat_lt d.high s.low) _ _ (λ _. omega arith) (λ _. omega arith))

  product_is : IsOrdered (product w d s)
  product_is = either_ordered (nat_lt (d.high * s.high) (number_count w)) _ _ (λ _. mul-le d.low s.low d.high s.high hd hs) (λ _. omega arith)

  quotient_is : IsOrdered (quotient d s)
  quotient_is =
      either_ordered (s.high == 0) _ _ (λ _. omega arith)
      (λ _. either_ordered (nat_le 1 s.low) _ _
      (λ some. quotient_grows d.low s.high d.high s.low hd hs (leb-true 1 s.low some))
      (λ _. omega arith))

  remainder_is : IsOrdered (remainder d s)
  remainder_is =
      either_ordered (nat_le 1 s.low && nat_lt d.high s.low) _ _ (λ _. hd)
      (λ _. either_ordered (nat_le 1 s.low) _ _ (λ _. omega arith) (λ _. omega arith))

  unsigned_is : (bounds : Bounds) → IsOrdered bounds → IsOrdered (if_unsigned w d s bounds)
  unsigned_is bounds is = either_ordered (nat_lt d.high (half w) && nat_lt s.high (half w)) _ _ (λ _. is) (λ _. omega arith)

  left_by_is : (c : ℕ) → IsOrdered (shifted_left_by w c d)
  left_by_is c = either_ordered (nat_lt (d.high * 2 ^ c) (number_count w)) _ _ (λ _. mul-le d.low (2 ^ c) d.high (2 ^ c) hd (omega arith)) (λ _. omega arith)

  left_is : IsOrdered (shifted_left w d s)
  left_is = either_ordered (is_single s) _ _ (λ _. left_by_is (count w s.low)) (λ _. omega arith)

  right_is : IsOrdered (shifted_right w d s)
  right_is = either_ordered (is_single s) _ _ (λ _. shr_mono (count w s.low) hd) (λ _. omega arith)

  combined_is : (operation : Operation) → IsOrdered (combined w operation d s)
  combined_is Add = sum_is
  combined_is Subtract = difference_is
  combined_is Multiply = product_is
  combined_is Divide = quotient_is
  combined_is SignedDivide = unsigned_is (quotient d s) quotient_is
  combined_is Or = omega arith
  combined_is And = omega arith
  combined_is LeftShift = left_is
  combined_is RightShift = right_is
  combined_is Modulo = remainder_is
  combined_is SignedModulo = unsigned_is (remainder d s) remainder_is
  combined_is Xor = omega arith
  combined_is Move = hs
  combined_is ArithmeticShift = either_ordered (nat_lt d.high (half w)) _ _ (λ _. right_is) (λ _. omega arith)

-- ---- pointers

pointer_to_is : (area : Area) (low high : ℤ) → low ≤ℤ high → IsFact (pointer_to area low high)
pointer_to_is area low high order =
    either_is_fact (int_le (pos 0 -ℤ farthest) low && int_le high farthest) _ _
    (λ near.
    let both = and_parts (int_le (pos 0 -ℤ farthest) low) (int_le high farthest) near in
    (int_le-true (pos 0 -ℤ farthest) low both.0, order, int_le-true high farthest both.1))
    (λ _. omega arith)

-- words of one sign are in the order of their signed values
signed_order : (b : Bounds) → IsOrdered b → (nat_lt b.high (2 ^ 63) || nat_le (2 ^ 63) b.low) ≡ true → cast_signed w64 b.low ≤ℤ cast_signed w64 b.high
signed_order b is one_sign = elim (or_cases (nat_lt b.high (2 ^ 63)) (nat_le (2 ^ 63) b.low) one_sign) [
  | inl positive ↦
      let below = ltb-true b.high (2 ^ 63) positive in
      let l = to_z_pos w64 b.low (omega arith) in
      let h = to_z_pos w64 b.high (omega arith) in
      omega (arith, ints, l, h)
  | inr negative ↦
      let above = leb-true (2 ^ 63) b.low negative in
      let l = negative_is b.low above in
      let h = negative_is b.high (omega arith) in
      omega (arith, ints, l, h)
]

sum_order : (a b c d : ℤ) → a ≤ℤ b → c ≤ℤ d → (a +ℤ c) ≤ℤ (b +ℤ d)
sum_order a b c d first second = omega (arith, ints)

difference_order : (a b c d : ℤ) → a ≤ℤ b → c ≤ℤ d → (a -ℤ d) ≤ℤ (b -ℤ c)
difference_order a b c d first second = omega (arith, ints)

moved_on_is : (area : Area) (low high : ℤ) (b : Bounds) → low ≤ℤ high → IsOrdered b → IsFact (moved_on area low high (signed_bounds b))
moved_on_is area low high b order is =
    cond_both (nat_lt b.high (2 ^ 63) || nat_le (2 ^ 63) b.low) _ _ (λ by. IsFact (moved_on area low high by))
    (λ one_sign. pointer_to_is area (low +ℤ cast_signed w64 b.low) (high +ℤ cast_signed w64 b.high)
    (sum_order low high (cast_signed w64 b.low) (cast_signed w64 b.high) order (signed_order b is one_sign)))
    (λ _. omega arith)

moved_back_is : (area : Area) (low high : ℤ) (b : Bounds) → low ≤ℤ high → IsOrdered b → IsFact (moved_back area low high (signed_bounds b))
moved_back_is area low high b order is =
    cond_both (nat_lt b.high (2 ^ 63) || nat_le (2 ^ 63) b.low) _ _ (λ by. IsFact (moved_back area low high by))
    (λ one_sign. pointer_to_is area (low -ℤ cast_signed w64 b.high) (high -ℤ cast_signed w64 b.low)
    (difference_order low high (cast_signed w64 b.low) (cast_signed w64 b.high) order (signed_order b is one_sign)))
    (λ _. omega arith)

-- ---- arithmetic

bounds_is : (f : Fact) → IsFact f → IsOrdered (bounds_of f)
bounds_is (Words b) is = is
bounds_is (Pointer area low high) is = omega arith

cut_is : (b : Bounds) → IsOrdered b → IsOrdered (cut b)
cut_is b is = either_ordered (is_single b) _ _ (λ _. omega arith) (λ _. either_ordered (nat_lt b.high (2 ^ 32)) _ _ (λ _. is) (λ _. omega arith))

operand_is : (w : Width) (f : Fact) → IsFact f → IsOrdered (operand_of w f)
operand_is Bits32 f is = cut_is (bounds_of f) (bounds_is f is)
operand_is Bits64 f is = bounds_is f is

sum_of_is : (d s : Fact) → IsFact d → IsFact s → IsFact (sum_of d s)
sum_of_is (Words d) (Words s) hd hs = sum_is Bits64 d s hd hs
sum_of_is (Pointer area low high) (Words s) hd hs = moved_on_is area low high s hd.1 hs
sum_of_is (Words d) (Pointer area low high) hd hs = moved_on_is area low high d hs.1 hd
sum_of_is (Pointer area low high) (Pointer area' low' high') hd hs = omega arith

difference_of_is : (d s : Fact) → IsFact d → IsFact s → IsFact (difference_of d s)
difference_of_is (Words d) (Words s) hd hs = difference_is Bits64 d s hd hs
difference_of_is (Pointer area low high) (Words s) hd hs = moved_back_is area low high s hd.1 hs
difference_of_is (Words d) (Pointer area low high) hd hs = omega arith
difference_of_is (Pointer area low high) (Pointer area' low' high') hd hs = omega arith

module _ (d s : Fact) (hd : IsFact d) (hs : IsFact s) where
  wide_is : (operation : Operation) → IsOrdered (combined Bits64 operation (bounds_of d) (bounds_of s))
  wide_is operation = combined_is Bits64 (bounds_of d) (bounds_of s) (bounds_is d hd) (bounds_is s hs) operation

  combined_64_is : (operation : Operation) → IsFact (combined_64 operation d s)
  combined_64_is Add = sum_of_is d s hd hs
  combined_64_is Subtract = difference_of_is d s hd hs
  combined_64_is Move = hs
  combined_64_is operation = wide_is operation

  combined_of_is : (w : Width) (operation : Operation) → IsFact (combined_of w operation d s)
  combined_of_is Bits32 operation = combined_is Bits32 (operand_of Bits32 d) (operand_of Bits32 s) (operand_is Bits32 d hd) (operand_is Bits32 s hs) operation
  combined_of_is Bits64 operation = combined_64_is operation

  extended_of_is : (extension : SignExtension) → IsOrdered (extended_of extension (operand_of (extension_width extension) s))
  extended_of_is extension =
      either_ordered (nat_lt (operand_of (extension_width extension) s).high (unsigned_below extension)) _ _ (λ _. operand_is (extension_width extension) s hs) (λ _. omega arith)

  swapped_is : (size : SwapSize) → IsOrdered (swapped_of size)
  swapped_is kept.Bits16 = omega arith
  swapped_is kept.Bits32 = omega arith
  swapped_is kept.Bits64 = omega arith

  estimated_is : (a : Arithmetic) → IsFact (estimated a d s)
  estimated_is (Binary w operation) = combined_of_is w operation
  estimated_is (Negate w) = omega arith
  estimated_is (MoveSigned extension) = extended_of_is extension
  estimated_is (SwapBytes swap size) = swapped_is size

  alu_is : (a : Arithmetic) → IsFact (alu_of a d s)
  alu_is a = either_is_fact (are_known a d s) _ _ (λ _. omega arith) (λ _. estimated_is a)

-- ---- edges

abbrev AreOrdered : Option (Bounds × Bounds) → Type 0
AreOrdered o = IfSome o OrderedPair

abbrev AreFacts : Option (Fact × Fact) → Type 0
AreFacts o = IfSome o FactPair

edge_is : (d s : Bounds) → AreOrdered (edge_of d s)
edge_is d s =
    cond_both (is_empty d || is_empty s) None (Some (d, s)) (λ o. AreOrdered o)
    (λ _. tt)
    (λ some. let both = or_parts (is_empty d) (is_empty s) some in (ltb-false d.high d.low both.0, ltb-false s.high s.low both.1))

exchanged_is : (o : Option (Bounds × Bounds)) → AreOrdered o → AreOrdered (exchanged o)
exchanged_is None are = tt
exchanged_is (Some both) are = (are.1, are.0)

less_is : (d s : Bounds) → AreOrdered (less d s)
less_is d s = cond_both (s.high == 0) _ _ (λ o. AreOrdered o) (λ _. tt) (λ _. edge_is (range d.low (min d.high (s.high - 1))) (range (max s.low (d.low + 1)) s.high))

at_most_is : (d s : Bounds) → AreOrdered (at_most d s)
at_most_is d s = edge_is (range d.low (min d.high s.high)) (range (max s.low d.low) s.high)

equal_is : (d s : Bounds) → AreOrdered (equal d s)
equal_is d s = let both = range (max d.low s.low) (min d.high s.high) in edge_is both both

different_is : (d s : Bounds) → IsOrdered d → IsOrdered s → AreOrdered (different d s)
different_is d s hd hs =
    cond_both (is_single s) _ _ (λ o. AreOrdered o)
    (λ _. edge_is (without s.low d) s)
    (λ _. cond_both (is_single d) _ _ (λ o. AreOrdered o) (λ _. edge_is d (without d.low s)) (λ _. (hd, hs)))

narrowed_is : (relation : Relation) (taken : Bool) (d s : Bounds) → IsOrdered d → IsOrdered s → AreOrdered (narrowed relation taken d s)
narrowed_is Equal true d s hd hs = equal_is d s
narrowed_is Equal false d s hd hs = different_is d s hd hs
narrowed_is NotEqual true d s hd hs = different_is d s hd hs
narrowed_is NotEqual false d s hd hs = equal_is d s
narrowed_is Less true d s hd hs = less_is d s
narrowed_is Less false d s hd hs = exchanged_is (at_most s d) (at_most_is s d)
narrowed_is LessOrEqual true d s hd hs = at_most_is d s
narrowed_is LessOrEqual false d s hd hs = exchanged_is (less s d) (less_is s d)
narrowed_is Greater true d s hd hs = exchanged_is (less s d) (less_is s d)
narrowed_is Greater false d s hd hs = at_most_is d s
narrowed_is GreaterOrEqual true d s hd hs = exchanged_is (at_most s d) (at_most_is s d)
narrowed_is GreaterOrEqual false d s hd hs = less_is d s
narrowed_is AnyBitSet taken d s hd hs = (hd, hs)
narrowed_is SignedGreater taken d s hd hs = (hd, hs)
narrowed_is SignedGreaterOrEqual taken d s hd hs = (hd, hs)
narrowed_is SignedLess taken d s hd hs = (hd, hs)
narrowed_is SignedLessOrEqual taken d s hd hs = (hd, hs)

as_facts_is : (o : Option (Bounds × Bounds)) → AreOrdered o → AreFacts (as_facts o)
as_facts_is None are = tt
as_facts_is (Some both) are = are

words_are : (width : Width) (relation : Relation) (taken : Bool) (d s : Bounds) (same : Bool) → IsOrdered d → IsOrdered s
    → AreFacts (refine_words width relation taken d s same)
words_are width relation taken d s same hd hs =
    cond_both (is_single d && is_single s) _ _ (λ o. AreFacts o)
    (λ _. cond_both (beq taken (is_taken width relation d.low s.low)) _ _ (λ o. AreFacts o) (λ _. (hd, hs)) (λ _. tt))
    (λ _. cond_both (same || not (fits width d) || not (fits width s)) _ _ (λ o. AreFacts o)
    (λ _. (hd, hs))
    (λ _. as_facts_is (narrowed relation taken d s) (narrowed_is relation taken d s hd hs)))

refined_are : (width : Width) (relation : Relation) (taken : Bool) (d s : Fact) (same : Bool) → IsFact d → IsFact s
    → AreFacts (refine_of width relation taken d s same)
refined_are width relation taken (Words d) (Words s) same hd hs = words_are width relation taken d s same hd hs
refined_are width relation taken (Words d) (Pointer area low high) same hd hs = (hd, hs)
refined_are width relation taken (Pointer area low high) (Words s) same hd hs = (hd, hs)
refined_are width relation taken (Pointer area low high) (Pointer area' low' high') same hd hs = (hd, hs)

-- ---- the domains

loaded_is : (size : Size) → IsFact (loaded_of size)
loaded_is Byte = omega arith
loaded_is HalfWord = omega arith
loaded_is Word = omega arith
loaded_is DoubleWord = omega arith

joined_order : (low high low' high' : ℤ) → (pos 0 -ℤ farthest) ≤ℤ low → low ≤ℤ high → high ≤ℤ farthest
    → (pos 0 -ℤ farthest) ≤ℤ low' → low' ≤ℤ high' → high' ≤ℤ farthest
    → ((pos 0 -ℤ farthest) ≤ℤ int_min low low') × (int_min low low' ≤ℤ int_max high high') × (int_max high high' ≤ℤ farthest)
joined_order low high low' high' a b c a' b' c' = (grind (arith, ints), grind (arith, ints), grind (arith, ints))

joined_is : (d s : Fact) → IsFact d → IsFact s → IsFact (join_of d s)
joined_is (Words d) (Words s) hd hs = omega arith
joined_is (Words d) (Pointer area low high) hd hs = omega arith
joined_is (Pointer area low high) (Words s) hd hs = omega arith
joined_is (Pointer area low high) (Pointer area' low' high') hd hs =
    either_is_fact (address_of area == address_of area') _ _ (λ _. joined_order low high low' high' hd.0 hd.1 hd.2 hs.0 hs.1 hs.2) (λ _. omega arith)

widened_is : (f : Fact) → IsFact f → IsFact (widened f)
widened_is (Words b) is = either_is_fact (is_single b) _ _ (λ _. is) (λ _. omega arith)
widened_is (Pointer area low high) is = either_is_fact (int_eq low high) _ _ (λ _. is) (λ _. omega arith)

both_widened_are : (o : Option (Fact × Fact)) → AreFacts o → AreFacts (both_widened o)
both_widened_are None are = tt
both_widened_are (Some both) are = (widened_is both.0 are.0, widened_is both.1 are.1)

pub intervals_give : GiveFacts IsFact intervals
intervals_give = record {
  constant = λ w _. omega arith;
  any = omega arith;
  pointer = λ area k _. pointer_to_is area (pos k) (pos k) (omega (arith, ints));
  loaded = loaded_is;
  loaded_signed = λ size. omega arith;
  join = joined_is;
  alu = λ arithmetic d e hd he. alu_is d e hd he arithmetic;
  refine = refined_are;
}

pub constants_give : GiveFacts IsFact constants
constants_give = record {
  constant = λ w _. omega arith;
  any = omega arith;
  pointer = intervals_give.pointer;
  loaded = λ size. widened_is (loaded_of size) (loaded_is size);
  loaded_signed = λ size. widened_is (Words full) (omega arith);
  join = λ d e hd he. widened_is (join_of d e) (joined_is d e hd he);
  alu = λ arithmetic d e hd he. widened_is (alu_of arithmetic d e) (alu_is d e hd he arithmetic);
  refine = λ width relation taken d e same hd he.
      both_widened_are (refine_of width relation taken d e same) (refined_are width relation taken d e same hd he);
}
