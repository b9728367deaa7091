-- The sizes and the limits of entries and of what goes with them.
use Rattle.std.specs.Prelude.{◌≡◌}
use Rattle.nvme_entry.specs.declared.command.TheConstants.{MOST_BLOCKS, MOST_DWORDS, MOST_TRANSFER}
use Rattle.nvme_entry.specs.declared.descriptor.TheConstants.{DESCRIPTOR_BYTES, ZONE_TYPE}
use Rattle.nvme_entry.specs.declared.program_slot.TheConstants.{PROGRAM_SLOTS}
use Rattle.nvme_entry.specs.declared.report.TheConstants.{REPORT_HEADER_BYTES}

-- the numbers of a report of zones (ZNS 1.1, 3.4.2)
pub record ReportsAreTheStandards : Type 0 where
  -- the bytes of the header and of a zone descriptor
  pub report_header_bytes : REPORT_HEADER_BYTES ≡ 64
  pub descriptor_bytes : DESCRIPTOR_BYTES ≡ 64
  -- the zone type Sequential Write Required
  pub zone_type : ZONE_TYPE ≡ 0x02

-- the most that a command moves, and how many slots there are for programs
pub record LimitsAreTheProfiles : Type 0 where
  -- bytes (profile), and dwords, of four bytes each
  pub most_transfer : MOST_TRANSFER ≡ 131072
  pub most_dwords : MOST_DWORDS ≡ 32768
  -- blocks, whose zero-based number has 16 bits (NVM Command Set 1.0, 3.2.4 and 3.2.6; ZNS 1.1, 3.4.1)
  pub most_blocks : MOST_BLOCKS ≡ 65536
  -- slots for programs (profile)
  pub program_slots : PROGRAM_SLOTS ≡ 8
