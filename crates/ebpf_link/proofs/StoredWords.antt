-- Sets of words of scratch.
use Rattle.std.proofs.Common.{ℕ, ℤ, pos, ◌≡◌, ◌∙◌, ◌+◌, ◌-◌, ◌*◌, ◌/◌, ◌%◌, ◌^◌, ◌<◌, ◌≤◌, min, Option, Some, refl, ap, subst, arith}
use Rattle.std.proofs.lemmas.Int.{ints}
use Rattle.std.proofs.lemmas.Nat.Bits.{bit_at_and, bit_at_mask_below, bit_at_mask_inside, bit_at_ones, bit_at_ones_above, ones_shl, ones_shr, bit_at-lt}
use Rattle.std.specs.Int.{bit_at}
use Rattle.std.specs.Prelude.{bit_and, ◌+ℤ◌, ◌-ℤ◌, ◌≤ℤ◌}
use Rattle.ebpf_link.specs.ScratchWords.{AreNearWords, AreWords, CoverStores, CoverStoresOf, Reaches}
use Rattle.accepted_programs.specs.Facts.{fact}
use Rattle.accepted_programs.specs.declared.facts.Facts.{Facts}
use Rattle.instruction_set.specs.Instruction.{access_of}
use Rattle.instruction_set.specs.declared.access.Access.{Access}
use Rattle.instruction_set.specs.declared.instruction.Instruction.{Instruction}
use Rattle.interval_domain.specs.Fact.{ContainsWord, IsFact}
use Rattle.interval_domain.specs.Intervals.{intervals}
use Rattle.interval_domain.specs.declared.fact.Fact.{Fact}
use Rattle.interval_domain.specs.declared.fact.Fact.TheVariants.{Pointer, Words}
use Rattle.program_interface.specs.Area.{address_of}
use Rattle.program_interface.specs.declared.area.Area.TheVariants.{Scratch}
use Rattle.word_domain.specs.Domain.{Belongs}
use Rattle.word_domain.specs.declared.offsets.Offsets.{Offsets}

-- ones from a place on, of 128, and ones up to another place
from_ones : (first : ℕ) → first < 128 → (2 ^ 128 - 1) * 2 ^ first % 2 ^ 128 ≡ 2 ^ 128 - 2 ^ first
from_ones first few = ones_shl 128 first (omega arith)

to_ones : (last : ℕ) → last < 128 → (2 ^ 128 - 1) / 2 ^ (127 - last) ≡ 2 ^ (last + 1) - 1
to_ones last few = let rest : 128 - (127 - last) ≡ last + 1 = omega arith in ones_shr 128 (127 - last) (omega arith) ∙ rw rest refl

both : (a b i : ℕ) → bit_at a i ≡ 1 → bit_at b i ≡ 1 → bit_at (bit_and a b) i ≡ 1
both a b i one other = bit_at_and a b i ∙ rw (one, other) refl

no_first : (a b i : ℕ) → bit_at a i ≡ 0 → bit_at (bit_and a b) i ≡ 0
no_first a b i none = let e = bit_at_and a b i in omega (arith, e, none)

no_second : (a b i : ℕ) → bit_at b i ≡ 0 → bit_at (bit_and a b) i ≡ 0
no_second a b i none = let e = bit_at_and a b i in omega (arith, e, none)

-- what lies between
pub between : (first last : ℕ) → first < 128 → last < 128
    → AreWords first last (bit_and ((2 ^ 128 - 1) * 2 ^ first % 2 ^ 128) ((2 ^ 128 - 1) / 2 ^ (127 - last)))
between first last low high = record {
  reached = λ word from to. both _ _ word
      (rw (from_ones first low) (bit_at_mask_inside first 128 word from (omega arith)))
      (rw (to_ones last high) (bit_at_ones (last + 1) word (omega arith)));
  below = λ word before. no_first _ _ word (rw (from_ones first low) (bit_at_mask_below first 128 word before));
  above = λ word past. no_second _ _ word (rw (to_ones last high) (bit_at_ones_above (last + 1) word (omega arith)));
}

-- all words
pub all : (word : ℕ) → word < 128 → bit_at (2 ^ 128 - 1) word ≡ 1
all word few = bit_at_ones 128 word few

-- what is known of an address in scratch, by its distances
pub in_scratch : (told : Offsets) (offset low high offset' : ℤ) (size words : ℕ) → told.area ≡ Scratch → low ≡ told.low → high ≡ told.high
    → offset' ≡ offset → AreNearWords low high offset' size words → CoverStores (Some told) offset size words
in_scratch told offset low high offset' size words area low_is high_is offset_is near close x byte is reaches =
    let first : address_of told.area ≡ address_of Scratch = ap address_of area in
    let there = reaches.there in
    near (record { low = rw low_is close.low; high = rw high_is close.high }) (pos x -ℤ pos (address_of Scratch)) reaches.nth byte
    (omega (arith, ints, is.0, first, low_is)) (omega (arith, ints, is.1, first, high_is)) reaches.counted
    (omega (arith, ints, there, offset_is)) reaches.inside

-- by what is known of an address that has this word
pub covered : (fact : Fact) (offset : ℤ) (size words x byte : ℕ) → CoverStores (intervals.offsets fact) offset size words
    → Belongs IsFact ContainsWord fact x → Reaches x offset size byte → bit_at words (byte / 8) ≡ 1
covered (Words bounds) offset size words x byte cover is reaches = (let there = reaches.inside in cover (byte / 8) (omega arith))
covered (Pointer area low high) offset size words x byte cover is reaches =
    let bounds = is.fact in
    cover (record { low = omega (arith, ints, bounds.0); high = omega (arith, ints, bounds.2) }) x byte is.within.0 reaches

-- so it is of an access that stores
pub stored_covered : (facts : Facts Fact) (instruction : Instruction) (access : Access) (known : Fact) (told : Option Offsets) (offset : ℤ)
    → (words : ℕ) → access_of instruction ≡ Some access → known ≡ fact intervals facts access.base → told ≡ intervals.offsets known
    → offset ≡ access.offset → CoverStores told offset access.size words → CoverStoresOf facts instruction words
stored_covered facts instruction access known told offset words of known_is told_is offset_is cover other x byte found kind belongs reaches =
    let same : access ≡ other = cc in
    let here = subst (λ (o : ℤ). CoverStores (intervals.offsets (fact intervals facts access.base)) o access.size words) offset_is
    (subst (λ (t : Option Offsets). CoverStores t offset access.size words) (told_is ∙ ap intervals.offsets known_is) cover) in
    let Covers : Access → Type 0 = λ a. Belongs IsFact ContainsWord (fact intervals facts a.base) x → Reaches x a.offset a.size byte
    → bit_at words (byte / 8) ≡ 1 in
    subst Covers same (λ b r. covered (fact intervals facts access.base) access.offset access.size words x byte here b r) belongs reaches
