-- What a refusal of a text tells: which fault, where, and that no test before its own fails (profile).
use Rattle.std.specs.Prelude.{ℕ, ◌≡◌, ◌≢◌, ◌+◌, ◌*◌, ◌<◌, ◌≤◌, ◌⊎◌, true, false, List, length, get_or, take, drop, Some, None, IfSome, Err}
use Rattle.common_definitions.specs.FirstCheck.{FailsFirst}
use Rattle.zone_state.specs.State.{state_of}
use Rattle.zone_state.specs.Zone.{CountedZone, fits_state}
use Rattle.zone_resources.specs.Admission.{IsWithin}
use Rattle.zone_resources.specs.Counts.{open_count, active_count}
use Rattle.common_definitions.specs.Bytes.{field}
use Rattle.image_text.specs.declared.fault.LoadFault.{LoadFault}
use Rattle.image_text.specs.declared.fault.LoadFault.TheVariants as faults
use Rattle.image_text.specs.declared.fault.HeaderFault.{HeaderFault}
use Rattle.image_text.specs.declared.fault.HeaderFault.TheVariants as header_faults
use Rattle.image_text.specs.declared.fault.ZoneRowFault.{ZoneRowFault}
use Rattle.image_text.specs.declared.fault.ZoneRowFault.TheVariants as row_faults
use Rattle.image_text.specs.declared.header.TheConstants.{HEADER_BYTES}
use Rattle.image_text.specs.declared.version.Version.{Version}
use Rattle.image_text.specs.declared.zone_row.TheConstants.{ZONE_ROW_BYTES}
use Rattle.image_store.specs.Geometry.{Shape, IsShape, shape_checks}
use Rattle.image_store.specs.ImageInMemory.{no_counted_zone}
use Rattle.image_text.specs.Reading.{are_zeros, namespace_in, rows_end, shape_in, total_told}
use Rattle.image_text.specs.Text.{written_blocks}
use Rattle.image_text.specs.Version.{HasText, has_block, numbers_of_version}

-- a text at least as long as a header, which begins with the magic of a version
pub record HasMagic (version : Version) (bytes : List ℕ) : Type 0 where
  pub whole : HEADER_BYTES ≤ length bytes
  pub magic : take 8 bytes ≡ (numbers_of_version version).magic

-- what can be wrong with a header of a version that tells a shape:
abbrev pub IsHeaderFault : Version → List ℕ → Shape → HeaderFault → Type 0
-- its numbers are those of no shape, and this is the first test that they fail;
IsHeaderFault version header s (header_faults.Numbers refusal) = FailsFirst (shape_checks s) refusal
-- they are those of one, but no block of the version has so many bytes;
IsHeaderFault version header s (header_faults.VersionBlock told block) =
    (told ≡ version) × (block ≡ s.block) × IsShape s × (has_block version s.block ≡ false)
-- some block has, but the version hasn't so many zones;
IsHeaderFault version header s (header_faults.VersionZones told zones) =
    (told ≡ version) × (zones ≡ s.zones) × IsShape s × (has_block version s.block ≡ true) × ((numbers_of_version version).most_zones < s.zones)
-- the version has all that, but what stands behind isn't zero
IsHeaderFault version header s (header_faults.Reserved told) =
    (told ≡ version) × IsShape s × HasText version s × (are_zeros (drop (numbers_of_version version).zeros_from header) ≡ false)

-- a text whose header has no fault
pub record HasHeader (version : Version) (bytes : List ℕ) : Type 0 where
  pub begins : HasMagic version bytes
  pub shape : IsShape (shape_in bytes)
  pub has : HasText version (shape_in bytes)
  pub zeros : are_zeros (drop (numbers_of_version version).zeros_from (take HEADER_BYTES bytes)) ≡ true

-- the row of the zone with this number
abbrev pub row_at : List ℕ → ℕ → List ℕ
row_at bytes zone = take ZONE_ROW_BYTES (drop (HEADER_BYTES + zone * ZONE_ROW_BYTES) bytes)

-- a row tells a zone of a capacity
pub record TellsZone (capacity : ℕ) (row : List ℕ) (z : CountedZone) : Type 0 where
  pub zeros : are_zeros (take 3 (drop 1 row)) ≡ true
  pub state : state_of (get_or row 0 0) ≡ Some z.state
  pub written : field row 4 4 ≡ z.written
  pub same_capacity : capacity ≡ z.capacity
  pub fits : fits_state z.state z.written z.capacity ≡ true

-- what can be wrong with a row:
abbrev pub IsRowFault : ℕ → List ℕ → ZoneRowFault → Type 0
-- bytes 1 to 3 aren't zero;
IsRowFault capacity row row_faults.Reserved = are_zeros (take 3 (drop 1 row)) ≡ false
-- they are, but no state has this code;
IsRowFault capacity row (row_faults.State code) =
    (are_zeros (take 3 (drop 1 row)) ≡ true) × (get_or row 0 0 ≡ code) × (state_of code ≡ None)
-- a state has, but a zone of it can't have so many written blocks
IsRowFault capacity row (row_faults.Blocks state written told) =
    (are_zeros (take 3 (drop 1 row)) ≡ true) × (state_of (get_or row 0 0) ≡ Some state)
    × (field row 4 4 ≡ written) × (capacity ≡ told) × (fits_state state written told ≡ false)

-- a text whose header has no fault, with all its rows, of which the first tell these zones
pub record TellsZones (version : Version) (bytes : List ℕ) (zones : List CountedZone) : Type 0 where
  pub header : HasHeader version bytes
  pub whole : rows_end bytes ≤ length bytes
  pub each : (z : ℕ) → z < length zones → TellsZone (shape_in bytes).capacity (row_at bytes z) (get_or zones z no_counted_zone)

-- and these are all its zones
pub record TellsAllZones (version : Version) (bytes : List ℕ) (zones : List CountedZone) : Type 0 where
  pub first : TellsZones version bytes zones
  pub all : length zones ≡ (shape_in bytes).zones

-- a fault of the row behind those of some zones
pub record IsFaultOfRow (version : Version) (bytes : List ℕ) (zone : ℕ) (why : ZoneRowFault) : Type 0 where
  pub before : List CountedZone
  pub tells : TellsZones version bytes before
  pub next : zone ≡ length before
  pub row : zone < (shape_in bytes).zones
  pub wrong : IsRowFault (shape_in bytes).capacity (row_at bytes zone) why

-- the number of written blocks that the header tells, if it tells it, is that of these zones
abbrev pub TellsTotal : Version → List ℕ → List CountedZone → Type 0
TellsTotal version bytes zones = IfSome (total_told version (take HEADER_BYTES bytes)) (λ total. total ≡ written_blocks zones)

-- a text without a fault up to the end of its rows
pub record HasRows (version : Version) (bytes : List ℕ) (zones : List CountedZone) : Type 0 where
  pub tells : TellsAllZones version bytes zones
  pub total : TellsTotal version bytes zones
  pub limits : IsWithin zones (shape_in bytes).limits

-- the byte behind the blocks of these zones
abbrev pub blocks_end : List ℕ → List CountedZone → ℕ
blocks_end bytes zones = rows_end bytes + written_blocks zones * (shape_in bytes).block

-- a text ends within its header, whatever stands there; or its header has no fault, and it ends within its rows, of which
-- none is looked at before all are there; or it has no fault up to the end of its rows, and ends within its blocks
abbrev pub EndsEarly : List ℕ → Type 0
EndsEarly bytes =
    (length bytes < HEADER_BYTES)
    ⊎ (((version : Version) × HasHeader version bytes × (length bytes < rows_end bytes))
    ⊎ ((version : Version) × (zones : List CountedZone) × HasRows version bytes zones × (length bytes < blocks_end bytes zones)))

-- what each fault of a text tells:
abbrev pub IsFirstFault : List ℕ → LoadFault → Type 0
IsFirstFault bytes faults.Truncated = EndsEarly bytes
-- a header is there, but has the magic of no version;
IsFirstFault bytes faults.Magic = (HEADER_BYTES ≤ length bytes) × ((version : Version) → take 8 bytes ≢ (numbers_of_version version).magic)
-- it has that of one, and this is wrong behind it;
IsFirstFault bytes (faults.Header why) = (version : Version) × HasMagic version bytes × IsHeaderFault version (take HEADER_BYTES bytes) (shape_in bytes) why
-- it has no fault, and this is wrong with the first row that tells no zone;
IsFirstFault bytes (faults.ZoneRow zone why) = (version : Version) × IsFaultOfRow version bytes zone why
-- all rows tell zones, but not with as many written blocks as the header tells;
IsFirstFault bytes (faults.Total told counted) =
    (version : Version) × (zones : List CountedZone) × TellsAllZones version bytes zones
    × (total_told version (take HEADER_BYTES bytes) ≡ Some told) × (counted ≡ written_blocks zones) × (told ≢ counted)
-- with as many, but too many of them are open or active;
IsFirstFault bytes (faults.Limits opened active limits) =
    (version : Version) × (zones : List CountedZone) × TellsAllZones version bytes zones × TellsTotal version bytes zones
    × (opened ≡ open_count zones) × (active ≡ active_count zones) × (limits ≡ (shape_in bytes).limits) × (¬ IsWithin zones limits)
-- no more than may be, and the text goes on behind the last block;
IsFirstFault bytes faults.Trailing =
    (version : Version) × (zones : List CountedZone) × HasRows version bytes zones × (blocks_end bytes zones < length bytes)
-- and no text has one of these
IsFirstFault bytes faults.Stream = ⊥
IsFirstFault bytes faults.Memory = ⊥

-- what bytes are refused with is their first fault
abbrev pub FaultIsFirst : Type 0
FaultIsFirst = (bytes : List ℕ) (fault : LoadFault) → namespace_in bytes ≡ Err fault → IsFirstFault bytes fault
