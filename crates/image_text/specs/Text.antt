-- The texts of an image, one of each version (profile).
use Rattle.std.specs.Prelude.{ℕ, List, [], ◌∷◌, ◌++◌, replicate}
use Rattle.std.specs.List.{concat, flat_map, sum_by}
use Rattle.byteorder.specs.Endian.{little_bytes}
use Rattle.zone_state.specs.State.{code_of}
use Rattle.zone_state.specs.Zone.{CountedZone}
use Rattle.image_text.specs.declared.version.Version.{Version}
use Rattle.image_text.specs.declared.version.Version.TheVariants.{One, Two}
use Rattle.image_store.specs.Geometry.{Shape}
use Rattle.image_store.specs.Namespace.{ZoneWithBlocks, ZonedNamespace, counted_zones, shape}
use Rattle.image_text.specs.Version.{numbers_of_version}

-- the numbers of a shape, in their order
abbrev pub numbers_of : Shape → List ℕ
numbers_of s = s.block ∷ s.zones ∷ s.size ∷ s.capacity ∷ s.limits.open_limit ∷ s.limits.active_limit ∷ []

-- the last 32 bytes of a header: zeros, in version 2 behind the number of all written blocks, in 64 bits
abbrev pub header_end : Version → ℕ → List ℕ
header_end One total = replicate 32 0
header_end Two total = little_bytes 8 total ++ replicate 24 0

-- 64 bytes: the magic, the numbers in 32 bits each, the lowest byte first, and the end
abbrev pub header : Version → Shape → ℕ → List ℕ
header version s total = (numbers_of_version version).magic ++ (flat_map (little_bytes 4) (numbers_of s) ++ header_end version total)

-- how many blocks of zones are written
abbrev pub written_blocks : List CountedZone → ℕ
written_blocks zones = sum_by (λ zone. zone.written) zones

-- 8 bytes: the state's code, zeros, and how many blocks are written
abbrev pub zone_row : CountedZone → List ℕ
zone_row z = code_of z.state ∷ 0 ∷ 0 ∷ 0 ∷ little_bytes 4 z.written

-- the rows of zones
abbrev pub zone_rows : List CountedZone → List ℕ
zone_rows zones = flat_map zone_row zones

-- the written blocks of zones, one zone's behind another's
abbrev pub blocks_text : List ZoneWithBlocks → List ℕ
blocks_text zones = flat_map (λ zone. concat zone.blocks) zones

-- the header, the row of each zone, and the written blocks of each zone
abbrev pub text_of : Version → ZonedNamespace → List ℕ
text_of version ns = header version (shape ns) (written_blocks (counted_zones ns)) ++ (zone_rows (counted_zones ns) ++ blocks_text ns.zones)

-- what is saved
abbrev pub text : ZonedNamespace → List ℕ
text ns = text_of Two ns
