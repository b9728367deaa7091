-- Logical blocks and zones.
use Rattle.std.specs.Prelude.{ℕ, ◌≡◌, ◌<◌, ◌+◌, ◌*◌, ◌^◌, length}
use Rattle.zone_state.specs.Zone.{CountedZone}
use Rattle.image_store.specs.Geometry.{zone_block_at}
use Rattle.image_store.specs.declared.geometry.ZoneBlock.{ZoneBlock}
use Rattle.image_store.specs.Namespace.{ZonedNamespace, zone_at, counted}

-- the number of logical blocks
abbrev pub block_total : ZonedNamespace → ℕ
block_total ns = length ns.zones * ns.size

-- a logical block as a block of the zone that contains it
abbrev pub zone_block_in : ZonedNamespace → ℕ → ZoneBlock
zone_block_in ns lba = zone_block_at ns.size lba

-- the number of that zone
abbrev pub zone_number : ZonedNamespace → ℕ → ℕ
zone_number ns lba = (zone_block_in ns lba).zone

-- the block's offset in that zone
abbrev pub zone_offset : ZonedNamespace → ℕ → ℕ
zone_offset ns lba = (zone_block_in ns lba).offset

-- the logical block that a zone's next write goes to (ZNS 1.1, 2.1.1.3)
abbrev pub write_pointer : ZonedNamespace → ℕ → ℕ
write_pointer ns z = z * ns.size + length (zone_at ns z).blocks

-- a zone with its blocks only counted
abbrev pub counted_zone_at : ZonedNamespace → ℕ → CountedZone
counted_zone_at ns z = counted ns.capacity (zone_at ns z)

-- where a logical block lies that the namespace has
pub record IsZoneBlock (ns : ZonedNamespace) (lba : ℕ) (found : ZoneBlock) : Type 0 where
  pub is : found ≡ zone_block_in ns lba
  pub inside : found.zone < length ns.zones
  pub address : found.zone * ns.size + found.offset ≡ lba
  -- no shape has more than 2 ^ 12 zones of 2 ^ 24 blocks
  pub small : lba < 2 ^ 36
