-- Which jumps a comparison takes.
use Rattle.std.proofs.Common.{ℕ, ℤ, pos, negsuc, ◌≡◌, Bool, true, false, not, refl, sym, ap, ◌∙◌, arith}
use Rattle.std.proofs.lemmas.Bool.Decides.{nat_tests}
use Rattle.std.proofs.lemmas.Int.{ints, to_z-of_z}
use Rattle.std.specs.Int.{w64, cast_unsigned}
use Rattle.std.specs.Ordering.{int_eq}
use Rattle.std.specs.Prelude.{int_le, int_lt, ◌==◌}
use Rattle.instruction_set.specs.declared.operation.Width.TheVariants.{Bits64}
use Rattle.program_meaning.specs.Word.{is_taken}
use Rattle.record_questions.proofs.Numbers.{fits_signed}
use Rattle.record_questions.specs.declared.question.Sign.{Sign}
use Rattle.record_questions.specs.declared.question.Sign.TheVariants.{Unsigned, Signed}
use Rattle.record_questions.specs.declared.question.Comparison.{Comparison}
use Rattle.record_questions.specs.declared.question.Comparison.TheVariants.{Equal, NotEqual, Less, LessOrEqual, Greater, GreaterOrEqual}
use Rattle.record_questions.specs.Asked.{IsNumber}
use Rattle.record_questions.specs.Code.{jump_of, jump_where, opposite}
use Rattle.record_questions.specs.Question.{compares}

-- is the code of a predicate skipped, that goes on where it is so?
abbrev pub skips : (goes_on is : Bool) → Bool
skips true is = not is
skips false is = is

-- how many slots are skipped
abbrev pub skipped : Bool → ℕ → ℕ
skipped true skip = skip
skipped false skip = 0

pub twice : (b : Bool) → b ≡ not (not b)
twice true = refl
twice false = refl

le_unless : (x y : ℤ) → int_le y x ≡ not (int_lt x y)
le_unless (pos a) (pos b) = grind (arith, nat_tests)
le_unless (pos a) (negsuc b) = refl
le_unless (negsuc a) (pos b) = refl
le_unless (negsuc a) (negsuc b) = grind (arith, nat_tests)

lt_unless : (x y : ℤ) → int_lt y x ≡ not (int_le x y)
lt_unless x y = twice (int_lt y x) ∙ ap not (sym (le_unless y x))

opposite_is : (c : Comparison) (x y : ℤ) → compares (opposite c) x y ≡ not (compares c x y)
opposite_is Equal x y = refl
opposite_is NotEqual x y = twice (int_eq x y)
opposite_is Less x y = le_unless x y
opposite_is LessOrEqual x y = lt_unless x y
opposite_is Greater x y = le_unless y x
opposite_is GreaterOrEqual x y = lt_unless y x

-- ---- words compare as the numbers do

same_unsigned : (a b : ℕ) → (a == b) ≡ int_eq (pos a) (pos b)
same_unsigned a b = grind (arith, nat_tests)

same_signed : (x y : ℤ) → IsNumber Signed x → IsNumber Signed y → (cast_unsigned w64 x == cast_unsigned w64 y) ≡ int_eq x y
same_signed (pos a) (pos b) f g = same_unsigned a b
same_signed (pos a) (negsuc b) f g = let p = f.1 in let q = g.0 in grind (arith, nat_tests, ints)
same_signed (negsuc a) (pos b) f g = let p = f.0 in let q = g.1 in grind (arith, nat_tests, ints)
same_signed (negsuc a) (negsuc b) f g = let p = f.0 in let q = g.0 in grind (arith, nat_tests, ints)

unsigned_where : (c : Comparison) (a b : ℕ) → is_taken Bits64 (jump_where Unsigned c) a b ≡ compares c (pos a) (pos b)
unsigned_where Equal a b = same_unsigned a b
unsigned_where NotEqual a b = ap not (same_unsigned a b)
unsigned_where Less a b = refl
unsigned_where LessOrEqual a b = refl
unsigned_where Greater a b = refl
unsigned_where GreaterOrEqual a b = refl

signed_where : (c : Comparison) (x y : ℤ) → IsNumber Signed x → IsNumber Signed y
    → is_taken Bits64 (jump_where Signed c) (cast_unsigned w64 x) (cast_unsigned w64 y) ≡ compares c x y
signed_where Equal x y f g = same_signed x y f g
signed_where NotEqual x y f g = ap not (same_signed x y f g)
signed_where Less x y f g = rw (to_z-of_z w64 x (fits_signed x f), to_z-of_z w64 y (fits_signed y g)) refl
signed_where LessOrEqual x y f g = rw (to_z-of_z w64 x (fits_signed x f), to_z-of_z w64 y (fits_signed y g)) refl
signed_where Greater x y f g = rw (to_z-of_z w64 x (fits_signed x f), to_z-of_z w64 y (fits_signed y g)) refl
signed_where GreaterOrEqual x y f g = rw (to_z-of_z w64 x (fits_signed x f), to_z-of_z w64 y (fits_signed y g)) refl

taken_where : (sign : Sign) (c : Comparison) (x y : ℤ) → IsNumber sign x → IsNumber sign y
    → is_taken Bits64 (jump_where sign c) (cast_unsigned w64 x) (cast_unsigned w64 y) ≡ compares c x y
taken_where Unsigned c (pos a) (pos b) f g = unsigned_where c a b
taken_where Unsigned c (pos a) (negsuc b) f g = let h = g.0 in absurd (omega (arith, ints, h))
taken_where Unsigned c (negsuc a) y f g = let h = f.0 in absurd (omega (arith, ints, h))
taken_where Signed c x y f g = signed_where c x y f g

pub taken_is : (sign : Sign) (goes_on : Bool) (c : Comparison) (x y : ℤ) → IsNumber sign x → IsNumber sign y
    → is_taken Bits64 (jump_of sign goes_on c) (cast_unsigned w64 x) (cast_unsigned w64 y) ≡ skips goes_on (compares c x y)
taken_is sign true c x y f g = taken_where sign (opposite c) x y f g ∙ opposite_is c x y
taken_is sign false c x y f g = taken_where sign c x y f g
