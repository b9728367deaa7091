-- An image in memory: counted zones, and one list of bytes with a room of one size for the blocks of each.
use Rattle.std.specs.Prelude.{ℕ, ◌≡◌, ◌<◌, ◌*◌, List, [], ◌∷◌, length, get_or, drop}
use Rattle.zone_state.specs.declared.state.ZoneState.TheVariants.{Offline}
use Rattle.zone_resources.specs.Admission.{IsWithin}
use Rattle.zone_resources.specs.Counts.{counts_of}
use Rattle.zone_resources.specs.declared.counts.Counts.{Counts}
use Rattle.zone_state.specs.Zone.{CountedZone, IsZone}
use Rattle.common_definitions.specs.Bytes.{AreBytes, pieces}
use Rattle.image_store.specs.Geometry.{Shape, IsShape}
use Rattle.image_store.specs.Namespace.{ZoneWithBlocks, ZonedNamespace, namespace_with}

-- a counted zone with its blocks, which stand at the front of these bytes
abbrev pub zone_seen : ℕ → CountedZone → List ℕ → ZoneWithBlocks
zone_seen block z bytes = record { state = z.state; blocks = pieces block z.written bytes }

-- the zones whose rooms these bytes are, each of so many blocks of this many bytes
abbrev pub zones_of : ℕ → ℕ → List CountedZone → List ℕ → List ZoneWithBlocks
zones_of block capacity [] bytes = []
zones_of block capacity (z ∷ zs) bytes =
    zone_seen block z bytes ∷ zones_of block capacity zs (drop (capacity * block) bytes)

-- the namespace that such an image is
abbrev pub namespace_of : Shape → List CountedZone → List ℕ → ZonedNamespace
namespace_of s zones bytes = namespace_with s (zones_of s.block s.capacity zones bytes)

-- what stands for a counted zone that there is not
abbrev pub no_counted_zone : CountedZone
no_counted_zone = record { state = Offline; written = 0; capacity = 0 }

-- the shape is one that is accepted, it has so many zones, each of its capacity, with a room for each, and each zone's state
-- allows its written blocks
pub record IsFlat (s : Shape) (zones : List CountedZone) (bytes : List ℕ) : Type 0 where
  pub shape : IsShape s
  pub count : length zones ≡ s.zones
  pub room : length bytes ≡ s.zones * (s.capacity * s.block)
  pub capacities : (z : ℕ) → z < length zones → (get_or zones z no_counted_zone).capacity ≡ s.capacity
  pub fits : (z : ℕ) → z < length zones → IsZone (get_or zones z no_counted_zone).state (get_or zones z no_counted_zone).written s.capacity

-- the parts of an image fit one another: the counts are those of the zones, the open and active zones
-- are within the limits, and the blocks are of bytes
pub record IsImage (s : Shape) (zones : List CountedZone) (counts : Counts) (bytes : List ℕ) : Type 0 where
  pub flat : IsFlat s zones bytes
  pub counted : counts ≡ counts_of zones
  pub within : IsWithin zones s.limits
  pub are_bytes : AreBytes bytes
