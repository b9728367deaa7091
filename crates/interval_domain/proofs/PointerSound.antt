-- Pointers: where they lead, moved by words, how far from their area, and which bytes they reach.
use Rattle.std.proofs.Common.{ℕ, ℤ, suc, pos, negsuc, ◌≡◌, ◌+◌, ◌-◌, ◌%◌, ◌^◌, ◌<◌, ◌≤◌, ◌+ℤ◌, ◌-ℤ◌, true, Some, inl, inr, refl, subst, arith, lit<}
use Rattle.std.proofs.lemmas.Bool.{cond_both, and_parts, and_from, le-leb, le-ltb, or_cases, ltb-true, leb-true}
use Rattle.std.proofs.lemmas.Int.{ints}
use Rattle.std.proofs.lemmas.Option.{cond_some}
use Rattle.std.proofs.Math.Nat.{mod-lt}
use Rattle.std.specs.Int.{w64, cast_signed, cast_unsigned}
use Rattle.std.specs.Prelude.{◌&&◌, ◌||◌, ◌≤ℤ◌, int_le, nat_lt, nat_le}
use Rattle.program_meaning.specs.Memory.{lies_in}
use Rattle.program_interface.specs.Area.{address_of, length_of}
use Rattle.program_interface.specs.declared.area.Area.{Area}
use Rattle.program_interface.specs.declared.area.Area.TheVariants.{Context, Block, Stack, Scratch}
use Rattle.program_meaning.proofs.Proved.{areas_are_short}
use Rattle.interval_domain.proofs.FactSound.{any_law, either_fact}
use Rattle.interval_domain.specs.Arithmetic.{moved_back, moved_on, signed_bounds}
use Rattle.interval_domain.specs.Fact.{ContainsWord, area_accessed, farthest, offsets_of, pointer_to}
use Rattle.word_domain.specs.Domain.{IsAtOffset}
use Rattle.word_domain.specs.declared.bounds.Bounds.{Bounds}
use Rattle.word_domain.specs.declared.offsets.Offsets.{Offsets}
use Rattle.interval_domain.specs.declared.fact.Fact.{Fact}
use Rattle.interval_domain.specs.declared.fact.Fact.TheVariants.{Words, Pointer}

-- an area's address is far from 0 and from the greatest word
record IsFarIn (address : ℕ) : Type 0 where
  above : 2 ^ 32 ≤ address
  below : address ≤ 2 ^ 34

far_in : (area : Area) → IsFarIn (address_of area)
far_in Context = record { above = omega arith; below = omega arith }
far_in Block = record { above = omega arith; below = omega arith }
far_in Stack = record { above = omega arith; below = omega arith }
far_in Scratch = record { above = omega arith; below = omega arith }

pub int_le-true : (a b : ℤ) → int_le a b ≡ true → a ≤ℤ b
int_le-true a b h = grind (arith, ints)

pointer_to_law : (area : Area) (low high : ℤ) (w : ℕ) → w < 2 ^ 64
    → ((pos 0 -ℤ farthest) ≤ℤ low → high ≤ℤ farthest
    → (low ≤ℤ (pos w -ℤ pos (address_of area))) × ((pos w -ℤ pos (address_of area)) ≤ℤ high))
    → ContainsWord (pointer_to area low high) w
pointer_to_law area low high w fits between =
    either_fact (int_le (pos 0 -ℤ farthest) low && int_le high farthest) _ _ w
    (λ near.
    let both = and_parts (int_le (pos 0 -ℤ farthest) low) (int_le high farthest) near in
    (between (int_le-true (pos 0 -ℤ farthest) low both.0) (int_le-true high farthest both.1), fits))
    (λ _. any_law w fits)

pub pointer_law : (area : Area) (k : ℕ) → k < 2 ^ 32
    → ContainsWord (pointer_to area (pos k) (pos k)) (address_of area + k)
pointer_law area k small =
    let far = far_in area in
    let fits : address_of area + k < 2 ^ 64 = omega (arith, far, small) in
    pointer_to_law area (pos k) (pos k) (address_of area + k) fits (λ _ _. (omega (arith, ints), omega (arith, ints)))

-- ---- moved by words

-- the signed value of a word with a sign
pub negative_is : (n : ℕ) → 2 ^ 63 ≤ n → cast_signed w64 n ≡ negsuc (2 ^ 64 - suc n)
negative_is n h = rw (le-ltb n (2 ^ 63) h) refl

-- a move on by words with no sign, and by words with one
on_positive : (address x y least most : ℕ) (low high : ℤ) → IsFarIn address → x < 2 ^ 64
    → low ≤ℤ (pos x -ℤ pos address) → (pos x -ℤ pos address) ≤ℤ high → least ≤ y → y ≤ most → most < 2 ^ 63
    → (high +ℤ cast_signed w64 most) ≤ℤ farthest
    → ((low +ℤ cast_signed w64 least) ≤ℤ (pos ((x + y) % 2 ^ 64) -ℤ pos address))
    × ((pos ((x + y) % 2 ^ 64) -ℤ pos address) ≤ℤ (high +ℤ cast_signed w64 most))
on_positive address x y least most low high far fits from to from' to' positive near =
    (omega (arith, ints), omega (arith, ints))

on_negative : (address x y least most : ℕ) (low high : ℤ) → IsFarIn address → x < 2 ^ 64 → y < 2 ^ 64
    → low ≤ℤ (pos x -ℤ pos address) → (pos x -ℤ pos address) ≤ℤ high → least ≤ y → y ≤ most → 2 ^ 63 ≤ least
    → (pos 0 -ℤ farthest) ≤ℤ (low +ℤ cast_signed w64 least)
    → ((low +ℤ cast_signed w64 least) ≤ℤ (pos ((x + y) % 2 ^ 64) -ℤ pos address))
    × ((pos ((x + y) % 2 ^ 64) -ℤ pos address) ≤ℤ (high +ℤ cast_signed w64 most))
on_negative address x y least most low high far fits small from to from' to' negative near =
    let l = negative_is least negative in
    let m = negative_is most (omega arith) in
    (omega (arith, ints, l, m), omega (arith, ints, l, m))

back_positive : (address x y least most : ℕ) (low high : ℤ) → IsFarIn address → x < 2 ^ 64
    → low ≤ℤ (pos x -ℤ pos address) → (pos x -ℤ pos address) ≤ℤ high → least ≤ y → y ≤ most → most < 2 ^ 63
    → (pos 0 -ℤ farthest) ≤ℤ (low -ℤ cast_signed w64 most)
    → ((low -ℤ cast_signed w64 most) ≤ℤ (pos ((x + (2 ^ 64 - y)) % 2 ^ 64) -ℤ pos address))
    × ((pos ((x + (2 ^ 64 - y)) % 2 ^ 64) -ℤ pos address) ≤ℤ (high -ℤ cast_signed w64 least))
back_positive address x y least most low high far fits from to from' to' positive near =
    (omega (arith, ints), omega (arith, ints))

back_negative : (address x y least most : ℕ) (low high : ℤ) → IsFarIn address → x < 2 ^ 64 → y < 2 ^ 64
    → low ≤ℤ (pos x -ℤ pos address) → (pos x -ℤ pos address) ≤ℤ high → least ≤ y → y ≤ most → 2 ^ 63 ≤ least
    → (high -ℤ cast_signed w64 least) ≤ℤ farthest
    → ((low -ℤ cast_signed w64 most) ≤ℤ (pos ((x + (2 ^ 64 - y)) % 2 ^ 64) -ℤ pos address))
    × ((pos ((x + (2 ^ 64 - y)) % 2 ^ 64) -ℤ pos address) ≤ℤ (high -ℤ cast_signed w64 least))
back_negative address x y least most low high far fits small from to from' to' negative near =
    let l = negative_is least negative in
    let m = negative_is most (omega arith) in
    (omega (arith, ints, l, m), omega (arith, ints, l, m))

pub moved_on_law : (area : Area) (low high : ℤ) (b : Bounds) (x y : ℕ) → ContainsWord (Pointer area low high) x
    → ContainsWord (Words b) y → ContainsWord (moved_on area low high (signed_bounds b)) ((x + y) % 2 ^ 64)
moved_on_law area low high b x y hx hy =
    let n = (x + y) % 2 ^ 64 in
    cond_both (nat_lt b.high (2 ^ 63) || nat_le (2 ^ 63) b.low) _ _ (λ by. ContainsWord (moved_on area low high by) n)
    (λ one_sign. pointer_to_law area (low +ℤ cast_signed w64 b.low) (high +ℤ cast_signed w64 b.high) n (mod-lt (x + y) (lit< tt))
    (λ least most. elim (or_cases (nat_lt b.high (2 ^ 63)) (nat_le (2 ^ 63) b.low) one_sign) [
      | inl positive ↦ on_positive (address_of area) x y b.low b.high low high (far_in area) hx.1 hx.0.0 hx.0.1 hy.0.0 hy.0.1 (ltb-true b.high (2 ^ 63) positive) most
      | inr negative ↦ on_negative (address_of area) x y b.low b.high low high (far_in area) hx.1 hy.1 hx.0.0 hx.0.1 hy.0.0 hy.0.1 (leb-true (2 ^ 63) b.low negative) least
    ]))
    (λ _. any_law n (mod-lt (x + y) (lit< tt)))

pub moved_back_law : (area : Area) (low high : ℤ) (b : Bounds) (x y : ℕ) → ContainsWord (Pointer area low high) x
    → ContainsWord (Words b) y → ContainsWord (moved_back area low high (signed_bounds b)) ((x + (2 ^ 64 - y)) % 2 ^ 64)
moved_back_law area low high b x y hx hy =
    let n = (x + (2 ^ 64 - y)) % 2 ^ 64 in
    cond_both (nat_lt b.high (2 ^ 63) || nat_le (2 ^ 63) b.low) _ _ (λ by. ContainsWord (moved_back area low high by) n)
    (λ one_sign. pointer_to_law area (low -ℤ cast_signed w64 b.high) (high -ℤ cast_signed w64 b.low) n (mod-lt (x + (2 ^ 64 - y)) (lit< tt))
    (λ least most. elim (or_cases (nat_lt b.high (2 ^ 63)) (nat_le (2 ^ 63) b.low) one_sign) [
      | inl positive ↦ back_positive (address_of area) x y b.low b.high low high (far_in area) hx.1 hx.0.0 hx.0.1 hy.0.0 hy.0.1 (ltb-true b.high (2 ^ 63) positive) least
      | inr negative ↦ back_negative (address_of area) x y b.low b.high low high (far_in area) hx.1 hy.1 hx.0.0 hx.0.1 hy.0.0 hy.0.1 (leb-true (2 ^ 63) b.low negative) most
    ]))
    (λ _. any_law n (mod-lt (x + (2 ^ 64 - y)) (lit< tt)))

-- ---- offsets

pub offsets_law : (f : Fact) (told : Offsets) (w : ℕ) → offsets_of f ≡ Some told → ContainsWord f w → IsAtOffset told w
offsets_law (Words b) told w are_told is = cc
offsets_law (Pointer area low high) told w are_told is =
    let same : record { area = area; low = low; high = high } ≡ told = cc in
    subst (λ offsets. IsAtOffset offsets w) same is.0

-- ---- access

-- the first and the last byte of an access
reached : (address length size w : ℕ) (low high offset : ℤ) → IsFarIn address → length < 2 ^ 32 → w < 2 ^ 64
    → low ≤ℤ (pos w -ℤ pos address) → (pos w -ℤ pos address) ≤ℤ high
    → pos 0 ≤ℤ (low +ℤ offset) → ((high +ℤ offset) +ℤ pos size) ≤ℤ pos length
    → (address ≤ (w + cast_unsigned w64 offset) % 2 ^ 64)
    × ((w + cast_unsigned w64 offset) % 2 ^ 64 + size ≤ address + length)
reached address length size w low high (pos n) far short fits from to first last = (omega (arith, ints), omega (arith, ints))
reached address length size w low high (negsuc n) far short fits from to first last = (omega (arith, ints), omega (arith, ints))

pub access_law : (block : ℕ) (f : Fact) (offset : ℤ) (size : ℕ) (area : Area) (w : ℕ) → block < 2 ^ 32
    → area_accessed block f offset size ≡ Some area → ContainsWord f w
    → lies_in block area ((w + cast_unsigned w64 offset) % 2 ^ 64) size ≡ true
access_law block (Words b) offset size area w fits told is = cc
access_law block (Pointer area' low high) offset size area w fits told is =
    let named = cond_some (int_le (pos 0) (low +ℤ offset) && int_le ((high +ℤ offset) +ℤ pos size) (pos (length_of block area'))) area' area told in
    let both = and_parts (int_le (pos 0) (low +ℤ offset)) (int_le ((high +ℤ offset) +ℤ pos size) (pos (length_of block area'))) named.0 in
    let inside = reached (address_of area') (length_of block area') size w low high offset (far_in area') (areas_are_short block area' fits)
    is.1 is.0.0 is.0.1 (int_le-true _ _ both.0) (int_le-true _ _ both.1) in
    let address = (w + cast_unsigned w64 offset) % 2 ^ 64 in
    subst (λ a. lies_in block a address size ≡ true) named.1
    (and_from (nat_le (address_of area') address) (nat_le (address + size) (address_of area' + length_of block area'))
    (le-leb (address_of area') address inside.0) (le-leb (address + size) (address_of area' + length_of block area') inside.1))
