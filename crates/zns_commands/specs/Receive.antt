-- Zone Management Receive: Report Zones (ZNS 1.1, 3.4.2).
use Rattle.std.specs.Prelude.{ℕ, Bool, ◌*◌, ◌==◌, nat_le, nat_lt, List, [], ◌∷◌, length, Option}
use Rattle.zone_state.specs.declared.status.Status.{Status}
use Rattle.zone_state.specs.declared.status.TheConstants.Status.{INVALID_FIELD_IN_COMMAND, LBA_OUT_OF_RANGE}
use Rattle.nvme_entry.specs.declared.command.TheConstants.{MOST_TRANSFER}
use Rattle.nvme_entry.specs.declared.filter.ZoneFilter.{ZoneFilter}
use Rattle.nvme_entry.specs.Report.{report}
use Rattle.common_definitions.specs.Checks.{demand}
use Rattle.image_store.specs.Namespace.{ZonedNamespace, counted_zones}
use Rattle.zns_commands.specs.Address.{block_total, zone_number}
use Rattle.zns_commands.specs.Effect.{Effect, success_effect}

-- the checks, in order (the order is profile): the transfer, the address
abbrev pub receive_checks : ZonedNamespace → ℕ → ℕ → List ℕ → List (Option Status)
receive_checks ns lba dwords input =
    demand (nat_le (4 * dwords) MOST_TRANSFER) INVALID_FIELD_IN_COMMAND
    ∷ demand (length input == 0) INVALID_FIELD_IN_COMMAND
    ∷ demand (nat_lt lba (block_total ns)) LBA_OUT_OF_RANGE
    ∷ []

-- the report begins at the zone that contains the address
abbrev pub receive_effect : ZonedNamespace → ℕ → ℕ → ZoneFilter → Bool → Effect
receive_effect ns lba dwords filter partial =
    success_effect ns 0 (report (4 * dwords) (counted_zones ns) (zone_number ns lba) ns.size filter partial)
