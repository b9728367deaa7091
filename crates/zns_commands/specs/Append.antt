-- Zone Append (ZNS 1.1, 3.4.1).
use Rattle.std.specs.Prelude.{ℕ, true, ◌≡◌, ◌≤◌, ◌+◌, ◌*◌, ◌==◌, nat_le, nat_lt, not, List, [], ◌∷◌, length, Option}
use Rattle.std.specs.Result.{result_err}
use Rattle.zone_state.specs.State.{is_open}
use Rattle.zone_state.specs.Zone.{write_check}
use Rattle.zone_state.specs.declared.status.Status.{Status}
use Rattle.zone_state.specs.declared.status.TheConstants.Status.{INVALID_FIELD_IN_COMMAND, LBA_OUT_OF_RANGE, ZONE_HELD}
use Rattle.zone_resources.specs.Holds.{is_destination}
use Rattle.zone_resources.specs.declared.holds.Holds.{Holds}
use Rattle.nvme_entry.specs.declared.command.TheConstants.{MOST_TRANSFER}
use Rattle.common_definitions.specs.Checks.{demand}
use Rattle.image_store.specs.Blocks.{block_count}
use Rattle.image_store.specs.Namespace.{ZonedNamespace, zone_at}
use Rattle.zns_commands.specs.Address.{block_total, counted_zone_at, zone_number, zone_offset, write_pointer}
use Rattle.zns_commands.specs.Effect.{Effect, success_effect}
use Rattle.zns_commands.specs.Resources.{room_for}
use Rattle.zns_commands.specs.Write.{with_written}

-- the checks, in order (the order is profile):
-- the transfer, the address; of the zone those of a Write, from its write pointer on
abbrev pub append_checks : ZonedNamespace → Holds → ℕ → ℕ → List ℕ → List (Option Status)
append_checks ns holds lba blocks input =
    let z = zone_number ns lba in
    demand (nat_le (blocks * ns.block) MOST_TRANSFER) INVALID_FIELD_IN_COMMAND
    ∷ demand (length input == blocks * ns.block) INVALID_FIELD_IN_COMMAND
    ∷ demand (nat_lt lba (block_total ns)) LBA_OUT_OF_RANGE
    ∷ demand (zone_offset ns lba == 0) INVALID_FIELD_IN_COMMAND
    ∷ demand (not (is_destination holds z)) ZONE_HELD
    ∷ result_err (write_check (counted_zone_at ns z) (length (zone_at ns z).blocks) blocks)
    ∷ result_err (room_for ns holds (zone_at ns z).state)
    ∷ []

-- the logical block that an Append's first block goes to
abbrev pub assigned_lba : ZonedNamespace → ℕ → ℕ
assigned_lba ns lba = write_pointer ns (zone_number ns lba)

-- the data is written there, and the completion tells where
abbrev pub append_effect : ZonedNamespace → Holds → ℕ → List ℕ → Effect
append_effect ns holds lba input = success_effect (with_written ns holds (zone_number ns lba) input) (assigned_lba ns lba) []

-- a zone takes whole blocks, one or more, without a further check: it is open and has room for them
pub record TakesBlocks (ns : ZonedNamespace) (z : ℕ) (bytes : List ℕ) : Type 0 where
  pub opened : is_open (zone_at ns z).state ≡ true
  pub some : 1 ≤ block_count ns.block bytes
  pub whole : length bytes ≡ block_count ns.block bytes * ns.block
  pub room : length (zone_at ns z).blocks + block_count ns.block bytes ≤ ns.capacity
