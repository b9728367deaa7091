-- The sizes of an image's parts.
use Rattle.std.specs.Prelude.{◌≡◌}
use Rattle.image_text.specs.declared.header.TheConstants.{HEADER_BYTES}
use Rattle.image_text.specs.declared.zone_row.TheConstants.{ZONE_ROW_BYTES}

-- the bytes of a header and of a zone row (profile)
pub record SizesAreTheProfiles : Type 0 where
  pub header_bytes : HEADER_BYTES ≡ 64
  pub zone_row_bytes : ZONE_ROW_BYTES ≡ 8
