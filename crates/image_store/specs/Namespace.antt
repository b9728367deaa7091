-- A zoned namespace: its zones, each with the blocks that are written in it.
use Rattle.std.specs.Prelude.{ℕ, ◌≡◌, ◌<◌, ◌++◌, List, [], length, get_or, map, set, replicate, if◌then◌else◌}
use Rattle.zone_resources.specs.Admission.{IsWithin}
use Rattle.zone_resources.specs.declared.admission.Limits.{Limits}
use Rattle.zone_state.specs.declared.state.ZoneState.{ZoneState}
use Rattle.zone_state.specs.declared.state.ZoneState.TheVariants.{Empty, Offline}
use Rattle.zone_state.specs.State.{is_cleared}
use Rattle.zone_state.specs.Zone.{CountedZone, after_write, IsZone}
use Rattle.common_definitions.specs.Bytes.{AreBytes}
use Rattle.image_store.specs.Blocks.{as_blocks}
use Rattle.image_store.specs.Geometry.{Shape, IsShape, zone_block_at}

-- a zone: its state, and its written blocks from its lowest logical block on (ZNS 1.1, 2.1.1)
pub record ZoneWithBlocks : Type 0 where
  pub state : ZoneState
  pub blocks : List (List ℕ)

-- bytes of a block, blocks of a zone, how many of them can be written, how many zones may be open
-- and active, and the zones (ZNS 1.1, 2.1.1)
pub record ZonedNamespace : Type 0 where
  pub block : ℕ
  pub size : ℕ
  pub capacity : ℕ
  pub limits : Limits
  pub zones : List ZoneWithBlocks

-- what stands for a zone that the namespace does not have
abbrev pub no_zone : ZoneWithBlocks
no_zone = record { state = Offline; blocks = [] }

-- the zone with this number
abbrev pub zone_at : ZonedNamespace → ℕ → ZoneWithBlocks
zone_at ns z = get_or ns.zones z no_zone

-- the namespace with another zone in this place
abbrev pub with_zone : ZonedNamespace → ℕ → ZoneWithBlocks → ZonedNamespace
with_zone ns z zone = record ns { zones = set ns.zones z zone }

-- a zone whose blocks are only counted
abbrev pub counted : ℕ → ZoneWithBlocks → CountedZone
counted capacity zone = record { state = zone.state; written = length zone.blocks; capacity = capacity }

-- all zones so counted
abbrev pub counted_zones : ZonedNamespace → List CountedZone
counted_zones ns = map (counted ns.capacity) ns.zones

-- no more zones are open or active than may be (ZNS 1.1, 2.1.1)
abbrev pub IsWithinLimits : ZonedNamespace → Type 0
IsWithinLimits ns = IsWithin (counted_zones ns) ns.limits

-- a zone with more blocks written at its write pointer
abbrev pub grown : ℕ → ZoneWithBlocks → List (List ℕ) → ZoneWithBlocks
grown capacity zone more = record {
  state = (after_write (counted capacity zone) (length more)).state;
  blocks = zone.blocks ++ more;
}

-- the namespace with these blocks written at a zone's write pointer
abbrev pub grown_at : ZonedNamespace → ℕ → List (List ℕ) → ZonedNamespace
grown_at ns z more = with_zone ns z (grown ns.capacity (zone_at ns z) more)

-- the same of bytes, as blocks
abbrev pub appended : ZonedNamespace → ℕ → List ℕ → ZonedNamespace
appended ns z bytes = grown_at ns z (as_blocks ns.block bytes)

-- a zone that comes into a state, with the blocks that it keeps there
abbrev pub arrived : ZoneState → ZoneWithBlocks → ZoneWithBlocks
arrived to zone = record { state = to; blocks = if is_cleared to then [] else zone.blocks }

-- the namespace with a zone come into a state
abbrev pub with_state : ZonedNamespace → ℕ → ZoneState → ZonedNamespace
with_state ns z to = with_zone ns z (arrived to (zone_at ns z))

-- the namespace of a shape that has these zones
abbrev pub namespace_with : Shape → List ZoneWithBlocks → ZonedNamespace
namespace_with s zones = record { block = s.block; size = s.size; capacity = s.capacity; limits = s.limits; zones = zones }

-- a namespace of which nothing is written
abbrev pub all_empty : Shape → ZonedNamespace
all_empty s = namespace_with s (replicate s.zones (record { state = Empty; blocks = [] }))

-- the shape of a namespace
abbrev pub shape : ZonedNamespace → Shape
shape ns = record { block = ns.block; zones = length ns.zones; size = ns.size; capacity = ns.capacity; limits = ns.limits }

-- a written block, by its LBA
abbrev pub block_at : ZonedNamespace → ℕ → List ℕ
block_at ns lba = let at = zone_block_at ns.size lba in get_or (zone_at ns at.zone).blocks at.offset []

-- what holds of each namespace that an image has: its shape is one that is accepted, each zone's
-- state allows its written blocks, the open and active zones are within the limits, and each block is
-- whole and of bytes
pub record IsNamespace (ns : ZonedNamespace) : Type 0 where
  pub shape : IsShape (shape ns)
  pub fits : (z : ℕ) → z < length ns.zones → IsZone (zone_at ns z).state (length (zone_at ns z).blocks) ns.capacity
  pub within : IsWithinLimits ns
  pub whole : (z i : ℕ) → i < length (zone_at ns z).blocks → length (get_or (zone_at ns z).blocks i []) ≡ ns.block
  pub bytes : (z i : ℕ) → AreBytes (get_or (zone_at ns z).blocks i [])
