-- What belongs to facts.
use Rattle.std.proofs.Common.{ℕ, ℤ, pos, ◌≡◌, ◌^◌, ◌<◌, ◌-ℤ◌, Bool, true, false, cond, arith}
use Rattle.std.proofs.lemmas.Bool.{cond_both, eqb-true}
use Rattle.std.proofs.lemmas.Int.{ints}
use Rattle.std.specs.Int.{int_min, int_max}
use Rattle.std.specs.Ordering.{int_eq}
use Rattle.std.specs.Prelude.{◌==◌, ◌≤ℤ◌}
use Rattle.instruction_set.specs.Instruction.{size_of}
use Rattle.instruction_set.specs.declared.operation.SignedSize.{SignedSize}
use Rattle.instruction_set.specs.declared.operation.SignedSize.TheVariants as signed
use Rattle.instruction_set.specs.declared.operation.SignExtension.TheVariants.{Bits8To64, Bits16To64, Bits32To64}
use Rattle.instruction_set.specs.declared.operation.Size.{Size}
use Rattle.instruction_set.specs.declared.operation.Size.TheVariants.{Byte, HalfWord, Word, DoubleWord}
use Rattle.program_meaning.proofs.Proved.{extensions_are_words}
use Rattle.program_meaning.specs.Effect.{sign_extended}
use Rattle.program_interface.specs.Area.{address_of}
use Rattle.interval_domain.specs.Fact.{ContainsWord, IsInBounds, bounds_of, full, is_single, join_of, loaded_of, loaded_signed_of, single, widened}
use Rattle.interval_domain.specs.declared.fact.Fact.{Fact}
use Rattle.interval_domain.specs.declared.fact.Fact.TheVariants.{Words, Pointer}

pub is_word : (f : Fact) (w : ℕ) → ContainsWord f w → w < 2 ^ 64
is_word (Words b) w is = is.1
is_word (Pointer area low high) w is = is.1

pub any_law : (w : ℕ) → w < 2 ^ 64 → ContainsWord (Words full) w
any_law w fits = ((omega arith, omega arith), fits)

pub constant_law : (w : ℕ) → w < 2 ^ 64 → ContainsWord (Words (single w)) w
constant_law w fits = ((omega arith, omega arith), fits)

-- a fact that a test chooses is right where both are
pub either_fact : (test : Bool) (f g : Fact) (w : ℕ) → (test ≡ true → ContainsWord f w) → (test ≡ false → ContainsWord g w)
    → ContainsWord (cond test f g) w
either_fact test f g w when unless = cond_both test f g (λ chosen. ContainsWord chosen w) when unless

pub bounds_law : (f : Fact) (w : ℕ) → ContainsWord f w → IsInBounds (bounds_of f) w
bounds_law (Words b) w is = is.0
bounds_law (Pointer area low high) w is = (omega arith, omega arith)

pub loaded_law : (size : Size) (n : ℕ) → n < 256 ^ size_of size → ContainsWord (loaded_of size) n
loaded_law Byte n h = ((omega arith, omega arith), omega arith)
loaded_law HalfWord n h = ((omega arith, omega arith), omega arith)
loaded_law Word n h = ((omega arith, omega arith), omega arith)
loaded_law DoubleWord n h = ((omega arith, omega arith), omega arith)

pub loaded_signed_law : (size : SignedSize) (n : ℕ) → ContainsWord (loaded_signed_of size) (sign_extended size n)
loaded_signed_law signed.Byte n = any_law (sign_extended signed.Byte n) (extensions_are_words Bits8To64 n)
loaded_signed_law signed.HalfWord n = any_law (sign_extended signed.HalfWord n) (extensions_are_words Bits16To64 n)
loaded_signed_law signed.Word n = any_law (sign_extended signed.Word n) (extensions_are_words Bits32To64 n)

pub widened_law : (f : Fact) (w : ℕ) → ContainsWord f w → ContainsWord (widened f) w
widened_law (Words b) w is = either_fact (is_single b) _ _ w (λ _. is) (λ _. any_law w is.1)
widened_law (Pointer area low high) w is = either_fact (int_eq low high) _ _ w (λ _. is) (λ _. any_law w is.1)

-- ---- join

same_address : (a b w : ℕ) (low high low' high' : ℤ) → (a == b) ≡ true
    → low' ≤ℤ (pos w -ℤ pos b) → (pos w -ℤ pos b) ≤ℤ high'
    → (int_min low low' ≤ℤ (pos w -ℤ pos a)) × ((pos w -ℤ pos a) ≤ℤ int_max high high')
same_address a b w low high low' high' same least most =
    let e = eqb-true a b same in
    (grind (arith, ints), grind (arith, ints))

pub join_first : (f g : Fact) (w : ℕ) → ContainsWord f w → ContainsWord (join_of f g) w
join_first (Words b) (Words c) w is = ((omega arith, omega arith), is.1)
join_first (Words b) (Pointer area low high) w is = any_law w is.1
join_first (Pointer area low high) (Words b) w is = any_law w is.1
join_first (Pointer area low high) (Pointer area' low' high') w is =
    either_fact (address_of area == address_of area') _ _ w
    (λ _. ((grind (arith, ints), grind (arith, ints)), is.1))
    (λ _. any_law w is.1)

pub join_second : (f g : Fact) (w : ℕ) → ContainsWord g w → ContainsWord (join_of f g) w
join_second (Words b) (Words c) w is = ((omega arith, omega arith), is.1)
join_second (Words b) (Pointer area low high) w is = any_law w is.1
join_second (Pointer area low high) (Words b) w is = any_law w is.1
join_second (Pointer area low high) (Pointer area' low' high') w is =
    either_fact (address_of area == address_of area') _ _ w
    (λ same.
    let both = same_address (address_of area) (address_of area') w low high low' high' same is.0.0 is.0.1 in
    (both, is.1))
    (λ _. any_law w is.1)
