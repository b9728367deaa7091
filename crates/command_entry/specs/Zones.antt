-- Blocks of which words speak, and the zones of a namespace (profile).
use Rattle.std.specs.Prelude.{◌≡◌, ◌≤◌, ◌+◌, ◌⊎◌, ℕ, Some, IsSome}
use Rattle.image_store.specs.Geometry.{Shape, zone_block_of}
use Rattle.image_store.specs.declared.geometry.ZoneBlock.{ZoneBlock}
use Rattle.command_entry.specs.declared.kinds.Kind.{Kind}
use Rattle.command_entry.specs.declared.kinds.Kind.TheVariants.{Append}
use Rattle.command_entry.specs.declared.words.EntryWords.{EntryWords}

-- how many blocks of its zone come before the first that is moved, as far as that is known: an append begins at the write pointer
abbrev pub first_counted : Kind → ZoneBlock → ℕ
first_counted Append place = 0
first_counted _ place = place.offset

-- the address that is named is in a zone, and so is that to which a run appends; so many blocks are within the capacity of the first
pub record AreInZones (shape : Shape) (words : EntryWords) (blocks : ℕ) : Type 0 where
  pub place : ZoneBlock
  pub named : zone_block_of shape words.numbers.lba ≡ Some place
  pub destination : IsSome (zone_block_of shape words.numbers.destination)
  pub within : (blocks + first_counted words.kind place ≤ shape.capacity) ⊎ (blocks ≡ 0)
