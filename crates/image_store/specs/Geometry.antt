-- The shape of a namespace.
use Rattle.std.specs.Prelude.{ℕ, Bool, ◌≤◌, ◌*◌, ◌/◌, ◌%◌, ◌&&◌, nat_le, nat_lt, List, [], ◌∷◌, Option, Some, None, Result, if◌then◌else◌}
use Rattle.std.specs.Int.{is_in_range}
use Rattle.program_interface.specs.BlockSize.{is_block_size, IsBlockSize}
use Rattle.zone_resources.specs.declared.admission.Limits.{Limits}
use Rattle.image_store.specs.declared.geometry.ZoneBlock.{ZoneBlock}
use Rattle.image_store.specs.declared.geometry.TheConstants.{MOST_BYTES, MOST_ZONES, MOST_ZONE_BLOCKS}
use Rattle.image_store.specs.declared.geometry.GeometryRefusal.{GeometryRefusal}
use Rattle.image_store.specs.declared.geometry.GeometryRefusal.TheVariants.{BlockSize, ZoneCount, ZoneSize, ZoneCapacity, ResourceLimits, TooLarge}
use Rattle.common_definitions.specs.Checks.{demand, first_failed, unless_failed}

-- bytes of a block, number of zones, blocks of a zone (zone size), how many of these can be written
-- (zone capacity), and how many zones may be open and active (ZNS 1.1, 2.1.1)
pub record Shape : Type 0 where
  pub block : ℕ
  pub zones : ℕ
  pub size : ℕ
  pub capacity : ℕ
  pub limits : Limits

-- some zone may be open, an open zone is active, and there are no more active zones than zones
abbrev pub are_limits : Limits → ℕ → Bool
are_limits limits zones = is_in_range 1 limits.active_limit limits.open_limit && nat_le limits.active_limit zones

-- the number by which a user is told of a fault (profile)
abbrev pub geometry_refusal_number : GeometryRefusal → ℕ
geometry_refusal_number (BlockSize bytes) = 1
geometry_refusal_number (ZoneCount zones) = 2
geometry_refusal_number (ZoneSize blocks) = 3
geometry_refusal_number (ZoneCapacity capacity size) = 4
geometry_refusal_number (ResourceLimits open_limit active_limit zones) = 5
geometry_refusal_number (TooLarge zones capacity block) = 6

-- the checks of a shape, in order, each with those of the numbers that it is of (profile)
abbrev pub shape_checks : Shape → List (Option GeometryRefusal)
shape_checks s =
    demand (is_block_size s.block) (BlockSize s.block)
    ∷ demand (is_in_range 1 MOST_ZONES s.zones) (ZoneCount s.zones)
    ∷ demand (is_in_range 1 MOST_ZONE_BLOCKS s.size) (ZoneSize s.size)
    ∷ demand (is_in_range 1 s.size s.capacity) (ZoneCapacity s.capacity s.size)
    ∷ demand (are_limits s.limits s.zones) (ResourceLimits s.limits.open_limit s.limits.active_limit s.zones)
    ∷ demand (nat_le (s.zones * s.capacity * s.block) MOST_BYTES) (TooLarge s.zones s.capacity s.block)
    ∷ []

-- the shape, or the fault of the first test that it fails, with the numbers that have it
abbrev pub tested : Shape → Result Shape GeometryRefusal
tested s = unless_failed (first_failed (shape_checks s)) s

-- the shape of these numbers
abbrev pub shape_of : ℕ → ℕ → ℕ → ℕ → Limits → Shape
shape_of block zones size capacity limits = record { block = block; zones = zones; size = size; capacity = capacity; limits = limits }

-- what holds of each shape that passes the tests, and of no other
pub record IsShape (s : Shape) : Type 0 where
  pub block_size : IsBlockSize s.block
  pub zones_some : 1 ≤ s.zones
  pub zones_most : s.zones ≤ MOST_ZONES
  pub size_some : 1 ≤ s.size
  pub size_most : s.size ≤ MOST_ZONE_BLOCKS
  pub capacity_some : 1 ≤ s.capacity
  pub capacity_most : s.capacity ≤ s.size
  pub open_some : 1 ≤ s.limits.open_limit
  pub open_most : s.limits.open_limit ≤ s.limits.active_limit
  pub active_most : s.limits.active_limit ≤ s.zones
  pub room : s.zones * (s.capacity * s.block) ≤ MOST_BYTES

-- the zone that contains a logical block, where zones have so many blocks, and the block's offset from the zone's
-- lowest one on
abbrev pub zone_block_at : ℕ → ℕ → ZoneBlock
zone_block_at size lba = record { zone = lba / size; offset = lba % size }

-- the zone and the offset of a logical block, where the shape has that block
abbrev pub zone_block_of : Shape → ℕ → Option ZoneBlock
zone_block_of s lba = if nat_lt lba (s.zones * s.size) then Some (zone_block_at s.size lba) else None
