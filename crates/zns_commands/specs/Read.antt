-- Read (NVM Command Set 1.0, 3.2.4; ZNS 1.1, 3.3.2).
use Rattle.std.specs.Prelude.{ℕ, Bool, ◌+◌, ◌*◌, ◌++◌, ◌==◌, ◌&&◌, nat_le, List, [], ◌∷◌, length, take, drop, replicate, Option, Some, None, is_none}
use Rattle.std.specs.List.{concat}
use Rattle.zone_state.specs.declared.state.ZoneState.{ZoneState}
use Rattle.zone_state.specs.declared.state.ZoneState.TheVariants.{Offline}
use Rattle.zone_state.specs.declared.status.Status.{Status}
use Rattle.zone_state.specs.declared.status.TheConstants.Status.{INVALID_FIELD_IN_COMMAND, LBA_OUT_OF_RANGE, ZONE_BOUNDARY_ERROR, ZONE_IS_OFFLINE}
use Rattle.nvme_entry.specs.declared.command.TheConstants.{MOST_TRANSFER}
use Rattle.common_definitions.specs.Checks.{demand, first_failed}
use Rattle.image_store.specs.Namespace.{ZonedNamespace, zone_at}
use Rattle.zns_commands.specs.Address.{block_total, zone_number, zone_offset}
use Rattle.zns_commands.specs.Effect.{Effect, success_effect}

-- why a zone in this state gives no blocks
abbrev pub read_refusal : ZoneState → Option Status
read_refusal Offline = Some ZONE_IS_OFFLINE
read_refusal _ = None

-- so many blocks of a zone from one on; a block that isn't written reads as zeros (profile)
abbrev pub blocks_read : ℕ → List (List ℕ) → ℕ → ℕ → List (List ℕ)
blocks_read block written first count = take count (drop first written ++ replicate count (replicate block 0))

-- the checks, in order (the order is profile): the transfer, the range, the zone
abbrev pub read_checks : ZonedNamespace → ℕ → ℕ → List ℕ → List (Option Status)
read_checks ns lba blocks input =
    demand (nat_le (blocks * ns.block) MOST_TRANSFER) INVALID_FIELD_IN_COMMAND
    ∷ demand (length input == 0) INVALID_FIELD_IN_COMMAND
    ∷ demand (nat_le (lba + blocks) (block_total ns)) LBA_OUT_OF_RANGE
    ∷ demand (nat_le (zone_offset ns lba + blocks) ns.size) ZONE_BOUNDARY_ERROR
    ∷ read_refusal (zone_at ns (zone_number ns lba)).state
    ∷ []

-- the blocks are given, and nothing changes
abbrev pub read_effect : ZonedNamespace → ℕ → ℕ → Effect
read_effect ns lba blocks =
    let zone = zone_at ns (zone_number ns lba) in
    success_effect ns 0 (concat (blocks_read ns.block zone.blocks (zone_offset ns lba) blocks))

-- a Read that passes its checks, and whose blocks are all written
abbrev pub is_stored : ZonedNamespace → ℕ → ℕ → List ℕ → Bool
is_stored ns lba blocks input =
    let zone = zone_at ns (zone_number ns lba) in
    is_none (first_failed (read_checks ns lba blocks input)) && nat_le (zone_offset ns lba + blocks) (length zone.blocks)
