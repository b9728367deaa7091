-- Parts of the list of checks of a Run, as functions of the code make them. The list itself is written out.
use Rattle.std.specs.Prelude.{ℕ, ◌+◌, ◌==◌, not, nat_le, List, [], ◌∷◌, length, Option}
use Rattle.zone_state.specs.State.{is_open}
use Rattle.zone_state.specs.declared.status.Status.{Status}
use Rattle.zone_state.specs.declared.status.TheConstants.Status.{ZONE_HELD, SOURCE_NOT_WRITTEN, DESTINATION_NOT_OPEN, DESTINATION_LACKS_ROOM, SOURCE_IS_DESTINATION}
use Rattle.zone_resources.specs.Holds.{is_destination}
use Rattle.zone_resources.specs.declared.holds.Holds.{Holds}
use Rattle.common_definitions.specs.Checks.{demand}
use Rattle.nvme_entry.specs.declared.command.RunCommand.{RunCommand}
use Rattle.image_store.specs.Namespace.{ZonedNamespace, zone_at}
use Rattle.image_store.specs.declared.geometry.ZoneBlock.{ZoneBlock}
use Rattle.zns_commands.specs.Read.{read_refusal}
use Rattle.zns_commands.specs.steps.Checks.{address_check, boundary_check, lowest_check, range_check}
use Rattle.device_meaning.specs.Admission.{destination_zone, source_zone}

-- the checks of the addresses
abbrev pub address_checks : ZonedNamespace → RunCommand → List (Option Status)
address_checks ns command =
    range_check ns command.lba command.blocks
    ∷ address_check ns command.destination
    ∷ lowest_check ns command.destination
    ∷ demand (not (source_zone ns command == destination_zone ns command)) SOURCE_IS_DESTINATION
    ∷ []

-- the checks of the source, of which so many blocks from this one on are to be read
abbrev pub source_checks : ZonedNamespace → ZoneBlock → ℕ → List (Option Status)
source_checks ns first blocks =
    boundary_check ns first blocks
    ∷ read_refusal (zone_at ns first.zone).state
    ∷ demand (nat_le (first.offset + blocks) (length (zone_at ns first.zone).blocks)) SOURCE_NOT_WRITTEN
    ∷ []

-- the checks of the destination, to which so many blocks may come
abbrev pub destination_checks : ZonedNamespace → Holds → ℕ → ℕ → List (Option Status)
destination_checks ns holds z blocks =
    demand (not (is_destination holds z)) ZONE_HELD
    ∷ demand (is_open (zone_at ns z).state) DESTINATION_NOT_OPEN
    ∷ demand (nat_le (length (zone_at ns z).blocks + blocks) ns.capacity) DESTINATION_LACKS_ROOM
    ∷ []
