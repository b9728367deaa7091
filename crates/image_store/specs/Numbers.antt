-- The limits of a namespace.
use Rattle.std.specs.Prelude.{◌≡◌}
use Rattle.image_store.specs.declared.geometry.TheConstants.{MOST_BYTES, MOST_ZONES, MOST_ZONE_BLOCKS}

-- the most zones, the most blocks of a zone, and the most bytes of the blocks of all zones that can be written (profile)
pub record LimitsAreTheProfiles : Type 0 where
  pub most_zones : MOST_ZONES ≡ 4096
  pub most_zone_blocks : MOST_ZONE_BLOCKS ≡ 16777216
  pub most_bytes : MOST_BYTES ≡ 268435456
