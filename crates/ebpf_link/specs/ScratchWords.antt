-- Which words of scratch a store may change: sets that have a bit for each.
use Rattle.std.specs.Prelude.{ℕ, ℤ, Option, Some, None, ◌≡◌, ◌<◌, ◌≤◌, ◌+◌, ◌*◌, ◌/◌, ◌^◌, ◌+ℤ◌, ◌-ℤ◌, ◌≤ℤ◌, pos}
use Rattle.std.specs.Int.{bit_at}
use Rattle.program_interface.specs.Area.{address_of}
use Rattle.program_interface.specs.declared.area.Area.TheVariants.{Scratch}
use Rattle.accepted_programs.specs.Facts.{fact}
use Rattle.accepted_programs.specs.declared.facts.Facts.{Facts}
use Rattle.instruction_set.specs.Instruction.{access_of}
use Rattle.instruction_set.specs.declared.access.Access.{Access}
use Rattle.instruction_set.specs.declared.access.AccessKind.TheVariants.{Store}
use Rattle.instruction_set.specs.declared.instruction.Instruction.{Instruction}
use Rattle.interval_domain.specs.Fact.{ContainsWord, IsFact}
use Rattle.interval_domain.specs.Intervals.{intervals}
use Rattle.interval_domain.specs.declared.fact.Fact.{Fact}
use Rattle.word_domain.specs.Domain.{Belongs, IsAtOffset}
use Rattle.word_domain.specs.declared.offsets.Offsets.{Offsets}

-- the words from one on to another, both counted, and no others
pub record AreWords (first last words : ℕ) : Type 0 where
  pub reached : (word : ℕ) → first ≤ word → word ≤ last → bit_at words word ≡ 1
  pub below : (word : ℕ) → word < first → bit_at words word ≡ 0
  pub above : (word : ℕ) → last < word → bit_at words word ≡ 0

-- each word that has a byte from one distance from scratch on to another, both counted, and no others
pub record AreWordsBetween (first last : ℤ) (words : ℕ) : Type 0 where
  pub reached : (word : ℕ) → word < 128 → first ≤ℤ pos (8 * word + 7) → pos (8 * word) ≤ℤ last → bit_at words word ≡ 1
  pub below : (word : ℕ) → pos (8 * word + 8) ≤ℤ first → bit_at words word ≡ 0
  pub above : (word : ℕ) → (last +ℤ pos 1) ≤ℤ pos (8 * word) → bit_at words word ≡ 0

-- distances of an address that are no farther than what is known is
pub record AreNear (told : Offsets) : Type 0 where
  pub low : (pos 0 -ℤ pos (2 ^ 20)) ≤ℤ told.low
  pub high : told.high ≤ℤ pos (2 ^ 20)

-- each word that has one of so many bytes at an offset from an address between two distances from scratch, which are near
abbrev pub AreNearWords : ℤ → ℤ → ℤ → ℕ → ℕ → Type 0
AreNearWords low high offset size words = AreNear (record { area = Scratch; low = low; high = high }) → (distance : ℤ) (nth byte : ℕ)
    → low ≤ℤ distance → distance ≤ℤ high → nth < size → (distance +ℤ offset +ℤ pos nth) ≡ pos byte → byte < 1024
    → bit_at words (byte / 8) ≡ 1

-- one of so many bytes at an offset from an address is this one of scratch
pub record Reaches (x : ℕ) (offset : ℤ) (size byte : ℕ) : Type 0 where
  pub nth : ℕ
  pub counted : nth < size
  pub there : (pos (x + nth) +ℤ offset) ≡ pos (address_of Scratch + byte)
  pub inside : byte < 1024

-- the words of all bytes of scratch that such a store may reach, by what is known of its address
abbrev pub CoverStores : Option Offsets → ℤ → ℕ → ℕ → Type 0
CoverStores None offset size words = (word : ℕ) → word < 128 → bit_at words word ≡ 1
CoverStores (Some told) offset size words = AreNear told → (x byte : ℕ) → IsAtOffset told x → Reaches x offset size byte
    → bit_at words (byte / 8) ≡ 1

-- the words of all bytes of scratch that an instruction may store into, by what is known of its address
abbrev pub CoverStoresOf : Facts Fact → Instruction → ℕ → Type 0
CoverStoresOf facts instruction words = (access : Access) (x byte : ℕ) → access_of instruction ≡ Some access → access.kind ≡ Store
    → Belongs IsFact ContainsWord (fact intervals facts access.base) x → Reaches x access.offset access.size byte
    → bit_at words (byte / 8) ≡ 1
