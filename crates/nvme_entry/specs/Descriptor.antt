-- Zone descriptors (ZNS 1.1, 3.4.2): what they tell of a zone, and their bytes.
use Rattle.std.specs.Prelude.{ℕ, Bool, true, false, ◌<◌, ◌+◌, ◌*◌, ◌^◌, List, [], ◌∷◌, if◌then◌else◌}
use Rattle.std.specs.List.{flat_map}
use Rattle.byteorder.specs.Endian.{little_bytes}
use Rattle.zone_state.specs.State.{code_of}
use Rattle.zone_state.specs.Zone.{CountedZone}
use Rattle.zone_state.specs.declared.state.ZoneState.{ZoneState}
use Rattle.zone_state.specs.declared.state.ZoneState.TheVariants.{ReadOnly, Full, Offline}
use Rattle.nvme_entry.specs.declared.descriptor.ZoneDescriptor.{ZoneDescriptor}

-- can the zones of the state be written at a write pointer?
abbrev pub has_write_pointer : ZoneState → Bool
has_write_pointer ReadOnly = false
has_write_pointer Full = false
has_write_pointer Offline = false
has_write_pointer _ = true

-- the write pointer of a zone with this lowest LBA; all bits are set where it has none (profile)
abbrev pub pointer_told : CountedZone → ℕ → ℕ
pointer_told zone lowest = if has_write_pointer zone.state then lowest + zone.written else 0xFFFF_FFFF_FFFF_FFFF

-- what is told of a zone with this lowest LBA
abbrev pub described : CountedZone → ℕ → ZoneDescriptor
described zone lowest = record { state = zone.state; capacity = zone.capacity; lowest = lowest; write_pointer = pointer_told zone lowest }

-- the first 8 bytes as a number: the zone type Sequential Write Required in byte 0, the state in bits 7:4 of byte 1;
-- the attributes and the information on them are 0 (profile), and the 4 bytes behind them reserved
abbrev pub type_and_state : ZoneState → ℕ
type_and_state state = 0x02 + code_of state * 2 ^ 12

-- the 64 bytes of a descriptor: behind the first 8 the zone's capacity, its lowest LBA and its write pointer, in 8 bytes
-- each; those from 32 on are reserved
abbrev pub descriptor_bytes : ZoneDescriptor → List ℕ
descriptor_bytes d = flat_map (little_bytes 8) (type_and_state d.state ∷ d.capacity ∷ d.lowest ∷ d.write_pointer ∷ 0 ∷ 0 ∷ 0 ∷ 0 ∷ [])

-- the fields have the numbers of their types
pub record AreDescriptorFields (d : ZoneDescriptor) : Type 0 where
  pub capacity : d.capacity < 2 ^ 64
  pub lowest : d.lowest < 2 ^ 64
  pub write_pointer : d.write_pointer < 2 ^ 64
