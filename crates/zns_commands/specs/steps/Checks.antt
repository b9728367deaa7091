-- Parts of the lists of checks, as functions of the code make them. The lists of the commands are written out.
use Rattle.std.specs.Prelude.{ℕ, ◌+◌, ◌==◌, nat_lt, nat_le, not, List, [], ◌∷◌, length, Option}
use Rattle.std.specs.Result.{result_err}
use Rattle.zone_state.specs.Zone.{write_check}
use Rattle.zone_state.specs.declared.status.Status.{Status}
use Rattle.zone_state.specs.declared.status.TheConstants.Status.{INVALID_FIELD_IN_COMMAND, LBA_OUT_OF_RANGE, ZONE_BOUNDARY_ERROR, ZONE_HELD}
use Rattle.zone_resources.specs.Holds.{is_destination}
use Rattle.zone_resources.specs.declared.holds.Holds.{Holds}
use Rattle.nvme_entry.specs.declared.command.TheConstants.{MOST_TRANSFER}
use Rattle.common_definitions.specs.Checks.{demand}
use Rattle.image_store.specs.declared.geometry.ZoneBlock.{ZoneBlock}
use Rattle.image_store.specs.Namespace.{ZonedNamespace, zone_at}
use Rattle.zns_commands.specs.Address.{block_total, counted_zone_at, zone_block_in, zone_offset}
use Rattle.zns_commands.specs.Resources.{room_for}

-- of a transfer of so many bytes, where so many are to stand beside the entry, and these do
abbrev pub transfer_checks : ℕ → ℕ → List ℕ → List (Option Status)
transfer_checks bytes beside input =
    demand (nat_le bytes MOST_TRANSFER) INVALID_FIELD_IN_COMMAND
    ∷ demand (length input == beside) INVALID_FIELD_IN_COMMAND
    ∷ []

-- a logical block is in the namespace
abbrev pub address_check : ZonedNamespace → ℕ → Option Status
address_check ns lba = demand (nat_lt lba (block_total ns)) LBA_OUT_OF_RANGE

-- a logical block is the lowest of its zone
abbrev pub lowest_check : ZonedNamespace → ℕ → Option Status
lowest_check ns lba = demand (zone_offset ns lba == 0) INVALID_FIELD_IN_COMMAND

-- a range of logical blocks is in the namespace
abbrev pub range_check : ZonedNamespace → ℕ → ℕ → Option Status
range_check ns lba blocks = demand (nat_le (lba + blocks) (block_total ns)) LBA_OUT_OF_RANGE

-- so many blocks, from this one of a zone on, are in that zone
abbrev pub boundary_check : ZonedNamespace → ZoneBlock → ℕ → Option Status
boundary_check ns first blocks = demand (nat_le (first.offset + blocks) ns.size) ZONE_BOUNDARY_ERROR

-- a zone is named by its lowest logical block
abbrev pub lowest_checks : ZonedNamespace → ℕ → List (Option Status)
lowest_checks ns lba = address_check ns lba ∷ lowest_check ns lba ∷ []

-- the range of a command lies in one zone
abbrev pub range_checks : ZonedNamespace → ℕ → ℕ → List (Option Status)
range_checks ns lba blocks = range_check ns lba blocks ∷ boundary_check ns (zone_block_in ns lba) blocks ∷ []

-- a zone can be written, from one of its blocks on: the holds; its state, its write pointer and its capacity; the limits
abbrev pub zone_write_checks : ZonedNamespace → Holds → ℕ → ℕ → ℕ → List (Option Status)
zone_write_checks ns holds z at blocks =
    demand (not (is_destination holds z)) ZONE_HELD
    ∷ result_err (write_check (counted_zone_at ns z) at blocks)
    ∷ result_err (room_for ns holds (zone_at ns z).state)
    ∷ []
