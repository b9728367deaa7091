-- An address as a word.
use Rattle.std.proofs.Common.{ℕ, ℤ, pos, ◌≡◌, ◌^◌, ◌≤◌, ◌+ℤ◌, ◌-ℤ◌, arith}
use Rattle.std.proofs.lemmas.Int.{ints}
use Rattle.std.specs.Int.Signed.{pos-nat_abs, yes_non_neg}
use Rattle.std.specs.Prelude.{◌≤ℤ◌}
use Rattle.program_interface.specs.Area.{address_of}
use Rattle.program_interface.specs.declared.area.Area.{Area}
use Rattle.program_interface.specs.declared.area.Area.TheVariants.{Context, Block, Stack, Scratch}
use Rattle.interval_domain.specs.Fact.{ContainsWord, IsFact, farthest}
use Rattle.interval_domain.specs.declared.fact.Fact.{Fact}
use Rattle.interval_domain.specs.declared.fact.Fact.TheVariants.{Words, Pointer}
use Rattle.address_domain.specs.Addresses.{address_at, as_words, narrowed_to, pointer_or}

-- an area's address is far from 0
far_in : (area : Area) → 2 ^ 32 ≤ address_of area
far_in Context = omega arith
far_in Block = omega arith
far_in Stack = omega arith
far_in Scratch = omega arith

pub address_is : (area : Area) (distance : ℤ) → (pos 0 -ℤ farthest) ≤ℤ distance → pos (address_at area distance) ≡ (pos (address_of area) +ℤ distance)
address_is area distance near =
    let far = far_in area in
    pos-nat_abs (pos (address_of area) +ℤ distance) (yes_non_neg (omega (arith, ints, far, near)))

pub in_order : (area : Area) (low high : ℤ) → IsFact (Pointer area low high) → address_at area low ≤ address_at area high
in_order area low high is =
    let least = address_is area low is.0 in
    let most = address_is area high (omega (arith, ints, is.0, is.1)) in
    omega (arith, ints, least, most, is.1)

-- ---- facts

pub as_words_is : (f : Fact) → IsFact f → IsFact (as_words f)
as_words_is (Words b) is = is
as_words_is (Pointer area low high) is = in_order area low high is

pub pointer_or_is : (f words : Fact) → IsFact f → IsFact words → IsFact (pointer_or f words)
pointer_or_is (Pointer area low high) words is other = is
pointer_or_is (Words b) words is other = other

-- ---- words

pub contains_as_words : (f : Fact) (w : ℕ) → IsFact f → ContainsWord f w → ContainsWord (as_words f) w
contains_as_words (Words b) w is within = within
contains_as_words (Pointer area low high) w is within =
    let least = address_is area low is.0 in
    let most = address_is area high (omega (arith, ints, is.0, is.1)) in
    ((omega (arith, ints, least, within.0.0), omega (arith, ints, most, within.0.1)), within.1)

pub pointer_or_contains : (f words : Fact) (w : ℕ) → ContainsWord f w → ContainsWord words w → ContainsWord (pointer_or f words) w
pointer_or_contains (Pointer area low high) words w is other = is
pointer_or_contains (Words b) words w is other = other

pub narrowed_contains : (f g : Fact) (w : ℕ) → ContainsWord f w → ContainsWord g w → ContainsWord (narrowed_to f g) w
narrowed_contains (Pointer area low high) (Words b) w is told = ((omega (arith, ints, told.0.0), omega (arith, ints, told.0.1)), told.1)
narrowed_contains (Pointer area low high) (Pointer area' low' high') w is told = told
narrowed_contains (Words b) g w is told = told
