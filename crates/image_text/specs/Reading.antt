-- Reading the text of an image, of either version (profile): the namespace that it stands for, or the
-- fault of the first test that fails.
use Rattle.std.specs.Prelude.{ℕ, zero, suc, Bool, ◌+◌, ◌*◌, ◌==◌, ◌&&◌, nat_le, List, [], ◌∷◌, length, get_or, take, drop, Option, Some, None, Result, Ok, Err, if◌then◌else◌}
use Rattle.std.specs.List.{find, list_all, starts_with}
use Rattle.std.specs.Option.{ok_or}
use Rattle.std.specs.Result.{result_map_both}
use Rattle.common_definitions.specs.Readings.{◌>>=◌}
use Rattle.zone_state.specs.declared.state.ZoneState.{ZoneState}
use Rattle.zone_state.specs.State.{state_of}
use Rattle.zone_state.specs.Zone.{CountedZone, fits_state}
use Rattle.zone_resources.specs.declared.admission.Limits.{Limits}
use Rattle.zone_resources.specs.Counts.{open_count, active_count}
use Rattle.common_definitions.specs.Bytes.{field}
use Rattle.image_text.specs.declared.fault.LoadFault.{LoadFault}
use Rattle.image_text.specs.declared.fault.LoadFault.TheVariants as fault
use Rattle.image_text.specs.declared.fault.ZoneRowFault.TheVariants as row_fault
use Rattle.common_definitions.specs.Checks.{demand, first_failed, unless_failed}
use Rattle.image_store.specs.ImageInMemory.{zone_seen}
use Rattle.image_text.specs.declared.fault.HeaderFault.TheVariants as header_fault
use Rattle.image_text.specs.declared.header.Header.{Header}
use Rattle.image_text.specs.declared.header.TheConstants.{HEADER_BYTES}
use Rattle.image_text.specs.declared.version.Version.{Version}
use Rattle.image_text.specs.declared.version.Version.TheVariants.{One, Two}
use Rattle.image_text.specs.declared.zone_row.TheConstants.{ZONE_ROW_BYTES}
use Rattle.image_store.specs.Geometry.{Shape, shape_of, tested}
use Rattle.image_store.specs.declared.geometry.GeometryRefusal.{GeometryRefusal}
use Rattle.image_store.specs.Namespace.{ZoneWithBlocks, ZonedNamespace, namespace_with}
use Rattle.image_text.specs.Text.{written_blocks}
use Rattle.image_text.specs.Version.{numbers_of_version, has_block}

-- so many bytes, and the rest
abbrev pub bytes_in : ℕ → List ℕ → Result (List ℕ × List ℕ) LoadFault
bytes_in n bytes = if nat_le n (length bytes) then Ok (take n bytes, drop n bytes) else Err fault.Truncated

-- are all of these bytes zero?
abbrev pub are_zeros : List ℕ → Bool
are_zeros bytes = list_all (λ byte. byte == 0) bytes

-- the numbers of a header, as a shape
abbrev pub shape_told : List ℕ → Shape
shape_told bytes =
    shape_of (field bytes 8 4) (field bytes 12 4) (field bytes 16 4) (field bytes 20 4)
    (record { open_limit = field bytes 24 4; active_limit = field bytes 28 4 })

-- the shape that the header of a text tells
abbrev pub shape_in : List ℕ → Shape
shape_in bytes = shape_told (take HEADER_BYTES bytes)

-- the byte behind the rows of a text
abbrev pub rows_end : List ℕ → ℕ
rows_end bytes = HEADER_BYTES + (shape_in bytes).zones * ZONE_ROW_BYTES

-- the fault of a header whose numbers are those of no shape
abbrev pub numbers_fault : GeometryRefusal → LoadFault
numbers_fault refusal = fault.Header (header_fault.Numbers refusal)

-- what the tests of a namespace's numbers give, of those of a header
abbrev pub numbers_tested : Result Shape GeometryRefusal → Result Shape LoadFault
numbers_tested = result_map_both (λ s. s) numbers_fault

-- the shape of a header's numbers, or those of them that have a fault
abbrev pub numbers_in : Shape → Result Shape LoadFault
numbers_in s = numbers_tested (tested s)

-- the version whose magic the bytes begin with
abbrev pub version_in : List ℕ → Option Version
version_in bytes = find (λ version. starts_with (λ a b. a == b) bytes (numbers_of_version version).magic) (One ∷ Two ∷ [])

-- the checks of a shape that there is, in order: the version has blocks of its size, and so many zones (profile)
abbrev pub version_checks : Version → Shape → List (Option LoadFault)
version_checks version s =
    demand (has_block version s.block) (fault.Header (header_fault.VersionBlock version s.block))
    ∷ demand (nat_le s.zones (numbers_of_version version).most_zones) (fault.Header (header_fault.VersionZones version s.zones))
    ∷ []

-- a shape is one that texts of the version have
abbrev pub version_kept : Version → Shape → Result Unit LoadFault
version_kept version s = unless_failed (first_failed (version_checks version s)) tt

-- the bytes behind what a header tells are zero
abbrev pub zeros_kept : Version → List ℕ → Result Unit LoadFault
zeros_kept version bytes =
    if are_zeros (drop (numbers_of_version version).zeros_from bytes)
    then Ok tt
    else Err (fault.Header (header_fault.Reserved version))

-- how many blocks are written in all, if the version tells it
abbrev pub total_told : Version → List ℕ → Option ℕ
total_told One bytes = None
total_told Two bytes = Some (field bytes 32 8)

-- what 64 bytes of a version tell
abbrev pub header_of : List ℕ → Version → Result Header LoadFault
header_of bytes version =
    numbers_in (shape_told bytes)
    >>= λ s. version_kept version s
    >>= λ kept. zeros_kept version bytes
    >>= λ zeros. Ok (record { geometry = s; total = total_told version bytes })

-- what 64 bytes tell, by the version whose magic they begin with
abbrev pub header_told : List ℕ → Result Header LoadFault
header_told bytes = ok_or (version_in bytes) fault.Magic >>= header_of bytes

-- the header in front of a text, and the bytes behind it
abbrev pub header_in : List ℕ → Result (Header × List ℕ) LoadFault
header_in bytes = bytes_in HEADER_BYTES bytes >>= λ front. header_told front.0 >>= λ header. Ok (header, front.1)

-- the zone of a number in a state, with so many blocks written
abbrev pub zone_with : ℕ → ZoneState → ℕ → ℕ → Result CountedZone LoadFault
zone_with zone state written capacity =
    if fits_state state written capacity
    then Ok (record { state = state; written = written; capacity = capacity })
    else Err (fault.ZoneRow zone (row_fault.Blocks state written capacity))

-- the same in the state that a code tells, if it tells one
abbrev pub zone_told : ℕ → ℕ → Option ZoneState → ℕ → ℕ → Result CountedZone LoadFault
zone_told zone code None written capacity = Err (fault.ZoneRow zone (row_fault.State code))
zone_told zone code (Some state) written capacity = zone_with zone state written capacity

-- what the 8 bytes of the zone with this number tell
abbrev pub zone_in : ℕ → ℕ → List ℕ → Result CountedZone LoadFault
zone_in zone capacity bytes =
    if are_zeros (take 3 (drop 1 bytes))
    then zone_told zone (get_or bytes 0 0) (state_of (get_or bytes 0 0)) (field bytes 4 4) capacity
    else Err (fault.ZoneRow zone row_fault.Reserved)

-- what the bytes of so many zones tell, from the one with this number on
abbrev pub zones_in : ℕ → ℕ → ℕ → List ℕ → Result (List CountedZone) LoadFault
zones_in zone capacity zero bytes = Ok []
zones_in zone capacity (suc n) bytes =
    zone_in zone capacity (take ZONE_ROW_BYTES bytes) >>= λ z. zones_in (zone + 1) capacity n (drop ZONE_ROW_BYTES bytes) >>= λ zs. Ok (z ∷ zs)

-- the zones of the zone rows, all of which are there before any is looked at
abbrev pub zone_rows_in : Shape → List ℕ → Result (List CountedZone × List ℕ) LoadFault
zone_rows_in s bytes =
    bytes_in (s.zones * ZONE_ROW_BYTES) bytes >>= λ front. zones_in 0 s.capacity s.zones front.0 >>= λ zs. Ok (zs, front.1)

-- the rows have as many written blocks as the header tells, if it tells that
abbrev pub total_kept : Option ℕ → List CountedZone → Result Unit LoadFault
total_kept None zs = Ok tt
total_kept (Some total) zs = if total == written_blocks zs then Ok tt else Err (fault.Total total (written_blocks zs))

-- no more zones are open or active than may be
abbrev pub limits_kept : Limits → List CountedZone → Result Unit LoadFault
limits_kept limits zs =
    if nat_le (open_count zs) limits.open_limit && nat_le (active_count zs) limits.active_limit
    then Ok tt
    else Err (fault.Limits (open_count zs) (active_count zs) limits)

-- the zones with their blocks, which lie one zone's behind another's
abbrev pub blocks_in : ℕ → List CountedZone → List ℕ → Result (List ZoneWithBlocks × List ℕ) LoadFault
blocks_in block [] bytes = Ok ([], bytes)
blocks_in block (z ∷ zs) bytes =
    bytes_in (z.written * block) bytes
    >>= λ front. blocks_in block zs front.1
    >>= λ rest. Ok (zone_seen block z front.0 ∷ rest.0, rest.1)

-- nothing follows
abbrev pub end_in : List ℕ → Result Unit LoadFault
end_in bytes = if length bytes == 0 then Ok tt else Err fault.Trailing

-- the namespace that a text stands for
unfoldable pub namespace_in : List ℕ → Result ZonedNamespace LoadFault
namespace_in bytes =
    header_in bytes
    >>= λ header. zone_rows_in header.0.geometry header.1
    >>= λ rows. total_kept header.0.total rows.0
    >>= λ same. limits_kept header.0.geometry.limits rows.0
    >>= λ kept. blocks_in header.0.geometry.block rows.0 rows.1
    >>= λ blocks. end_in blocks.1
    >>= λ end. Ok (namespace_with header.0.geometry blocks.0)
