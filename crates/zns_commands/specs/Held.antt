-- What is refused of the zones that runs use (profile).
use Rattle.std.specs.Prelude.{ℕ, ◌≡◌, Bool, true, false, List, unwrap_or}
use Rattle.zone_state.specs.declared.status.TheConstants.Status.{ZONE_HELD}
use Rattle.common_definitions.specs.Checks.{first_failed}
use Rattle.zone_resources.specs.Holds.{is_destination, refuses}
use Rattle.zone_resources.specs.declared.holds.Holds.{Holds}
use Rattle.nvme_entry.specs.declared.command.StandardCommand.{StandardCommand}
use Rattle.image_store.specs.Namespace.{ZonedNamespace, counted_zones}
use Rattle.zns_commands.specs.Address.{zone_number}
use Rattle.zns_commands.specs.Change.{Change, Writing, Moving}
use Rattle.zns_commands.specs.Effect.{refused_effect}
use Rattle.zns_commands.specs.Meaning.{change_of, checks_before_holds, meaning}
use Rattle.zns_commands.specs.Send.{held_among}

-- is a zone that would be changed held against the change?
abbrev pub is_held_against : ZonedNamespace → Holds → Change → Bool
is_held_against ns holds (Writing lba blocks) = is_destination holds (zone_number ns lba)
is_held_against ns holds (Moving lba action true) = held_among (counted_zones ns) holds action
is_held_against ns holds (Moving lba action false) = refuses holds action (zone_number ns lba)
is_held_against ns holds _ = false

-- a command on a zone that is held against it is refused, with Zone Held where its data and its address are right
abbrev pub HeldCommandsAreRefused : Type 0
HeldCommandsAreRefused =
    (ns : ZonedNamespace) (holds : Holds) (command : StandardCommand) (input : List ℕ)
    → is_held_against ns holds (change_of command) ≡ true
    → meaning ns holds command input ≡ refused_effect ns (unwrap_or (first_failed (checks_before_holds ns command input)) ZONE_HELD)
