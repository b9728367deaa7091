-- Writing to a zone, and Write (NVM Command Set 1.0, 3.2.6; ZNS 1.1, 3.3.6).
use Rattle.std.specs.Prelude.{ℕ, ◌+◌, ◌*◌, ◌==◌, nat_le, not, List, [], ◌∷◌, length, Option}
use Rattle.std.specs.Result.{result_err}
use Rattle.zone_state.specs.Zone.{write_check}
use Rattle.zone_state.specs.declared.status.Status.{Status}
use Rattle.zone_state.specs.declared.status.TheConstants.Status.{INVALID_FIELD_IN_COMMAND, LBA_OUT_OF_RANGE, ZONE_BOUNDARY_ERROR, ZONE_HELD}
use Rattle.zone_resources.specs.Holds.{is_destination}
use Rattle.zone_resources.specs.declared.holds.Holds.{Holds}
use Rattle.nvme_entry.specs.declared.command.TheConstants.{MOST_TRANSFER}
use Rattle.common_definitions.specs.Checks.{demand}
use Rattle.image_store.specs.Namespace.{ZonedNamespace, zone_at, appended}
use Rattle.zns_commands.specs.Address.{block_total, zone_number, zone_offset, counted_zone_at}
use Rattle.zns_commands.specs.Effect.{Effect, success_effect}
use Rattle.zns_commands.specs.Resources.{room_for, gives_way, closed}

-- the bytes go, as blocks, to the zone's write pointer; the zone that gives way is closed first
abbrev pub with_written : ZonedNamespace → Holds → ℕ → List ℕ → ZonedNamespace
with_written ns holds z input = appended (closed ns (gives_way ns holds (zone_at ns z).state)) z input

-- the checks of a Write, in order (the order is profile):
-- the transfer, the range; of the zone the holds, then its state, its write pointer and its capacity, then the limits, which are
-- tested also where one command fills an Empty zone (profile)
abbrev pub write_checks : ZonedNamespace → Holds → ℕ → ℕ → List ℕ → List (Option Status)
write_checks ns holds lba blocks input =
    let z = zone_number ns lba in
    let offset = zone_offset ns lba in
    demand (nat_le (blocks * ns.block) MOST_TRANSFER) INVALID_FIELD_IN_COMMAND
    ∷ demand (length input == blocks * ns.block) INVALID_FIELD_IN_COMMAND
    ∷ demand (nat_le (lba + blocks) (block_total ns)) LBA_OUT_OF_RANGE
    ∷ demand (nat_le (offset + blocks) ns.size) ZONE_BOUNDARY_ERROR
    ∷ demand (not (is_destination holds z)) ZONE_HELD
    ∷ result_err (write_check (counted_zone_at ns z) offset blocks)
    ∷ result_err (room_for ns holds (zone_at ns z).state)
    ∷ []

-- the blocks are written, and nothing is given
abbrev pub write_effect : ZonedNamespace → Holds → ℕ → List ℕ → Effect
write_effect ns holds lba input = success_effect (with_written ns holds (zone_number ns lba) input) 0 []
