-- Of narrower bounds, each rule of arithmetic gives narrower bounds.
use Rattle.std.proofs.Common.{ℕ, ◌*◌, ◌/◌, ◌^◌, ◌<◌, ◌≤◌, arith, ◌≡◌, true, refl}
use Rattle.std.proofs.Math.Nat.{div-le_self, div-mul-le_self, mul-le-mul_left}
use Rattle.std.proofs.Math.Pow.{shr_mono}
use Rattle.std.proofs.lemmas.Bool.Decides.{nat_tests}
use Rattle.std.proofs.lemmas.Nat.{le-div, mul-le, shr_le}
use Rattle.instruction_set.specs.declared.operation.Operation.{Operation}
use Rattle.instruction_set.specs.declared.operation.Operation.TheVariants.{Add, Subtract, Multiply, Divide, SignedDivide, And, LeftShift, RightShift, Modulo, SignedModulo, Move, ArithmeticShift}
use Rattle.instruction_set.specs.declared.operation.Width.{Width}
use Rattle.instruction_set.specs.declared.operation.Width.TheVariants.{Bits64, Bits32}
use Rattle.program_meaning.specs.Word.{count, computed}
use Rattle.word_domain.specs.declared.bounds.Bounds.{Bounds}
use Rattle.interval_domain.specs.Range.{combined, number_count, top}
use Rattle.std.proofs.lemmas.Bool.{cond_both}
use Rattle.instruction_set.specs.Spelling.{extension_width}
use Rattle.instruction_set.specs.declared.operation.SignExtension.{SignExtension}
use Rattle.program_meaning.specs.declared.word.Arithmetic.{Arithmetic}
use Rattle.program_meaning.specs.declared.word.Arithmetic.TheVariants.{Binary, Negate, MoveSigned, SwapBytes}
use Rattle.word_domain.specs.Domain.{Belongs}
use Rattle.interval_domain.proofs.Proved.{intervals_sound}
use Rattle.interval_domain.specs.Arithmetic.{alu_of, are_known, cut, estimated, extended_of, operand_of}
use Rattle.interval_domain.specs.Fact.{ContainsWord, IsFact, IsInBounds, bounds_of}
use Rattle.interval_domain.specs.declared.fact.Fact.{Fact}
use Rattle.interval_domain.specs.declared.fact.Fact.TheVariants.{Words}
use Rattle.instruction_set.specs.declared.operation.SwapSize.TheVariants as kept

-- bounds in order within others, of numbers of a width
pub record IsPart (w : Width) (b c : Bounds) : Type 0 where
  pub ordered : b.low ≤ b.high
  pub fits : b.high < number_count w
  pub low : c.low ≤ b.low
  pub high : b.high ≤ c.high

pub whole_part : (b c : Bounds) → IsPart Bits64 b c → IsPart Bits64 b b
whole_part b c part = grind arith

quotient_grows : (a b c d : ℕ) → a ≤ c → d ≤ b → 0 < d → a / b ≤ c / d
quotient_grows a b c d more less some =
    let back = div-mul-le_self a b in
    let smaller : a / b * d ≤ a / b * b = mul-le-mul_left (a / b) less in
    le-div (a / b) c d some (omega (arith, back, smaller))

shifted : (k m n : ℕ) → m ≤ n → m / 2 ^ k ≤ n / 2 ^ k
shifted k m n less = shr_mono k less

pub top_part : (w : Width) (b : Bounds) → b.low ≤ b.high → b.high < number_count w → IsPart w b (top w)
top_part w b ordered fits = record { ordered = ordered; fits = fits; low = omega arith; high = omega arith }

module _ (w : Width) (d e s t : Bounds) (first : IsPart w d e) (second : IsPart w s t) where
  pub combined_part : (operation : Operation) → IsPart w (combined w operation d s) (combined w operation e t)
  combined_part Add = grind (arith, nat_tests)
  combined_part Subtract = grind (arith, nat_tests)
  combined_part Multiply = grind (arith, nat_tests, mul-le d.high s.high e.high t.high, mul-le e.low t.low d.low s.low, mul-le d.low s.low d.high s.high)
  combined_part Divide =
      grind (
        arith,
        nat_tests,
        quotient_grows d.low s.high d.high s.low,
        quotient_grows e.low t.high d.low s.high,
        quotient_grows d.high s.low e.high t.low,
        div-le_self d.high s.low,
      )
  combined_part SignedDivide =
      grind (
        arith,
        nat_tests,
        quotient_grows d.low s.high d.high s.low,
        quotient_grows e.low t.high d.low s.high,
        quotient_grows d.high s.low e.high t.low,
        div-le_self d.high s.low,
      )
  combined_part And = grind arith
  combined_part LeftShift =
      let p = 2 ^ count w s.low in
      grind (arith, nat_tests, mul-le d.low p d.high p, mul-le e.low p d.low p, mul-le d.high p e.high p)
  combined_part RightShift =
      let c = count w s.low in
      grind (arith, nat_tests, shifted c d.low d.high, shifted c e.low d.low, shifted c d.high e.high, shr_le d.high c)
  combined_part Modulo = grind (arith, nat_tests)
  combined_part SignedModulo = grind (arith, nat_tests)
  combined_part Move = second
  combined_part ArithmeticShift =
      let c = count w s.low in
      grind (arith, nat_tests, shifted c d.low d.high, shifted c e.low d.low, shifted c d.high e.high, shr_le d.high c)
  combined_part operation = top_part w (top w) (omega arith) (omega arith)

-- ---- operands
cut_part : (b c : Bounds) → IsPart Bits64 b c → IsPart Bits32 (cut b) (cut c)
cut_part b c part = grind (arith, nat_tests)

operand_part : (w : Width) (b c : Bounds) → IsPart Bits64 b c → IsPart w (operand_of w (Words b)) (operand_of w (Words c))
operand_part Bits32 b c part = cut_part b c part
operand_part Bits64 b c part = part

widened : (w : Width) (b c : Bounds) → IsPart w b c → IsPart Bits64 b c
widened Bits32 b c part = grind arith
widened Bits64 b c part = part

all_part : (w : Width) → IsPart w (top w) (top w)
all_part Bits32 = top_part Bits32 (top Bits32) (omega arith) (omega arith)
all_part Bits64 = top_part Bits64 (top Bits64) (omega arith) (omega arith)

extended_part : (extension : SignExtension) (b c : Bounds) → IsPart (extension_width extension) b c
    → IsPart (extension_width extension) (extended_of extension b) (extended_of extension c)
extended_part extension b c part = grind (arith, nat_tests)

-- ---- what is made of words

-- the bounds of what an instruction makes of words
abbrev pub made : Arithmetic → Bounds → Bounds → Bounds
made a d s = bounds_of (alu_of a (Words d) (Words s))

words_estimated : (a : Arithmetic) (d s : Bounds) → estimated a (Words d) (Words s) ≡ Words (bounds_of (estimated a (Words d) (Words s)))
words_estimated (Binary Bits64 Add) d s = refl
words_estimated (Binary Bits64 Subtract) d s = refl
words_estimated (Binary w operation) d s = refl
words_estimated a d s = refl

pub words_made : (a : Arithmetic) (d s : Bounds) → alu_of a (Words d) (Words s) ≡ Words (made a d s)
words_made a d s =
    cond_both (are_known a (Words d) (Words s)) _ _ (λ f. f ≡ Words (bounds_of f)) (λ _. refl) (λ _. words_estimated a d s)

-- a number between narrower bounds belongs to wider ones
pub part_belongs : (b c : Bounds) (n : ℕ) → IsPart Bits64 b c → b.low ≤ n → n ≤ b.high → Belongs IsFact ContainsWord (Words c) n
part_belongs b c n part from to =
    let word : n < 2 ^ 64 = omega (arith, to, part.fits) in
    record {
      fact = omega (arith, part.ordered, part.low, part.high);
      word = word;
      within = ((omega (arith, part.low, from), omega (arith, part.high, to)), word);
    }

in_words : (f : Fact) (b : Bounds) (n : ℕ) → f ≡ Words b → ContainsWord f n → IsInBounds b n × (n < 2 ^ 64)
in_words f b n is contains = rw is at contains

module _ (a : Arithmetic) (d e s t : Bounds) (first : IsPart Bits64 d e) (second : IsPart Bits64 s t) where
  -- what is computed of the words belongs to what is made of wider bounds
  pub computed_in : (x y : ℕ) → IsInBounds d x → IsInBounds s y → IsInBounds (made a e t) (computed a x y) × (computed a x y < 2 ^ 64)
  computed_in x y in_first in_second =
      in_words (alu_of a (Words e) (Words t)) (made a e t) (computed a x y) (words_made a e t)
      (intervals_sound.alu a (Words e) (Words t) x y (part_belongs d e x first in_first.0 in_first.1) (part_belongs s t y second in_second.0 in_second.1))

known_part : (a : Arithmetic) (d e s t : Bounds) → IsPart Bits64 d e → IsPart Bits64 s t → are_known a (Words e) (Words t) ≡ true
    → are_known a (Words d) (Words s) ≡ true
known_part (Binary w Move) d e s t first second are = grind (arith, nat_tests)
known_part (Binary w operation) d e s t first second are = grind (arith, nat_tests)
known_part (Negate w) d e s t first second are = grind (arith, nat_tests)
known_part (MoveSigned extension) d e s t first second are = grind (arith, nat_tests)
known_part (SwapBytes swap size) d e s t first second are = grind (arith, nat_tests)

estimated_part : (a : Arithmetic) (d e s t : Bounds) → IsPart Bits64 d e → IsPart Bits64 s t
    → IsPart Bits64 (bounds_of (estimated a (Words d) (Words s))) (bounds_of (estimated a (Words e) (Words t)))
estimated_part (Binary Bits32 operation) d e s t first second =
    widened Bits32 _ _ (combined_part Bits32 (cut d) (cut e) (cut s) (cut t) (cut_part d e first) (cut_part s t second) operation)
estimated_part (Binary Bits64 Add) d e s t first second = combined_part Bits64 d e s t first second Add
estimated_part (Binary Bits64 Subtract) d e s t first second = combined_part Bits64 d e s t first second Subtract
estimated_part (Binary Bits64 Move) d e s t first second = second
estimated_part (Binary Bits64 operation) d e s t first second = combined_part Bits64 d e s t first second operation
estimated_part (Negate w) d e s t first second = widened w (top w) (top w) (all_part w)
estimated_part (MoveSigned extension) d e s t first second =
    widened (extension_width extension) _ _ (extended_part extension _ _ (operand_part (extension_width extension) s t second))
estimated_part (SwapBytes swap kept.Bits16) d e s t first second = record { ordered = omega arith; fits = omega arith; low = omega arith; high = omega arith }
estimated_part (SwapBytes swap kept.Bits32) d e s t first second = record { ordered = omega arith; fits = omega arith; low = omega arith; high = omega arith }
estimated_part (SwapBytes swap kept.Bits64) d e s t first second = all_part Bits64

pub made_part : (a : Arithmetic) (d e s t : Bounds) → IsPart Bits64 d e → IsPart Bits64 s t → IsPart Bits64 (made a d s) (made a e t)
made_part a d e s t first second =
    cond_both (are_known a (Words d) (Words s)) _ _ (λ f. IsPart Bits64 (bounds_of f) (made a e t))
    (λ _.
    let inside = computed_in a d e s t first second d.low s.low (omega arith, first.ordered) (omega arith, second.ordered) in
    record { ordered = omega arith; fits = inside.1; low = inside.0.0; high = inside.0.1 })
    (λ unknown. cond_both (are_known a (Words e) (Words t)) _ _ (λ f. IsPart Bits64 (bounds_of (estimated a (Words d) (Words s))) (bounds_of f))
    (λ known. let no = known_part a d e s t first second known in cc)
    (λ _. estimated_part a d e s t first second))
