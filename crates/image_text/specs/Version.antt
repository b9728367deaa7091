-- The versions of an image's text, and the numbers of each (profile).
use Rattle.std.specs.Prelude.{ℕ, Bool, ◌≡◌, ◌≤◌, ◌==◌, true, List, [], ◌∷◌, codes}
use Rattle.std.specs.List.{list_any}
use Rattle.program_interface.specs.declared.block_size.TheConstants.{BLOCK_SIZES}
use Rattle.image_store.specs.declared.geometry.TheConstants.{MOST_ZONES}
use Rattle.image_text.specs.declared.version.Version.{Version}
use Rattle.image_text.specs.declared.version.Version.TheVariants.{One, Two}
use Rattle.image_store.specs.Geometry.{Shape}

-- the first eight bytes, the bytes that a block can have, how many zones there can be at most, and from
-- which of its 64 bytes on a header is zero
pub record VersionNumbers : Type 0 where
  pub magic : List ℕ
  pub block_sizes : List ℕ
  pub most_zones : ℕ
  pub zeros_from : ℕ

-- those of each version. Version 2 has all shapes that there are
abbrev pub numbers_of_version : Version → VersionNumbers
numbers_of_version One = record { magic = codes "ZNSIMG01"; block_sizes = 512 ∷ 1024 ∷ 2048 ∷ 4096 ∷ []; most_zones = 1024; zeros_from = 32 }
numbers_of_version Two = record { magic = codes "ZNSIMG02"; block_sizes = BLOCK_SIZES; most_zones = MOST_ZONES; zeros_from = 40 }

-- the number by which a user is told of a version
abbrev pub version_number : Version → ℕ
version_number One = 1
version_number Two = 2

-- can a block have this many bytes in a version?
abbrev pub has_block : Version → ℕ → Bool
has_block version bytes = list_any (λ size. size == bytes) (numbers_of_version version).block_sizes

-- namespaces of this shape have a text of the version
pub record HasText (version : Version) (s : Shape) : Type 0 where
  pub block : has_block version s.block ≡ true
  pub zones : s.zones ≤ (numbers_of_version version).most_zones
