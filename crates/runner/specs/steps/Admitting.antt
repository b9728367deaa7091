-- What the checks of a run have found.
use Rattle.std.specs.Prelude.{ℕ, ◌≡◌, ◌≢◌, ◌<◌, ◌≤◌, ◌+◌, ◌^◌, List, length, is_some, option_map, true, false, Option, Some}
use Rattle.zone_state.specs.declared.status.Status.{Status}
use Rattle.nvme_entry.specs.declared.command.RunCommand.{RunCommand}
use Rattle.nvme_entry.specs.declared.command.TheConstants.{MOST_BLOCKS}
use Rattle.program_interface.specs.RunSizes.{Sizes}
use Rattle.zone_resources.specs.Holds.{is_destination}
use Rattle.emit_append.specs.Need.{need}
use Rattle.image_store.specs.Namespace.{ZonedNamespace, zone_at}
use Rattle.image_store.specs.declared.geometry.ZoneBlock.{ZoneBlock}
use Rattle.zns_commands.specs.Address.{IsZoneBlock}
use Rattle.device_meaning.specs.Admission.{Loaded, granted_sizes, run_refusal, sizes_in}
use Rattle.device_meaning.specs.State.{State, free_place, holds_at, loaded_at}
use Rattle.runner.specs.steps.Ready.{AreWritten}
use Rattle.runner.specs.declared.admission.Admitted.{Admitted}

-- the zones of a Run: where it reads, and where it appends
pub record AreZonesOf (ns : ZonedNamespace) (command : RunCommand) (source : ZoneBlock) (destination : ℕ) : Type 0 where
  pub reads : IsZoneBlock ns command.lba source
  pub appends : IsZoneBlock ns command.destination (record { zone = destination; offset = 0 })
  pub other : source.zone ≢ destination

-- the sizes that the program of a slot is granted, where there is one
abbrev pub sizes_at : State → ℕ → Option Sizes
sizes_at s slot = option_map (λ (loaded : Loaded). granted_sizes s.namespace loaded.limit) (loaded_at s slot)

-- the status of the first check that a Run fails
abbrev pub refusal_by : State → RunCommand → List ℕ → Option Status
refusal_by s command = run_refusal s.namespace (holds_at s) (is_some (free_place s)) (loaded_at s command.slot) command

-- what an admitted run is given, of its command
pub record IsAdmission (s : State) (command : RunCommand) (admitted : Admitted) : Type 0 where
  pub free : free_place s ≡ Some admitted.run
  pub loaded : is_some (loaded_at s command.slot) ≡ true
  pub some : 1 ≤ command.blocks
  pub most : command.blocks ≤ MOST_BLOCKS
  pub zones : AreZonesOf s.namespace command admitted.source admitted.destination
  pub written : AreWritten s.namespace admitted.source command.blocks
  pub small : admitted.source.offset + command.blocks < 2 ^ 32
  pub alone : is_destination (holds_at s) admitted.destination ≡ false
  pub room : length (zone_at s.namespace admitted.destination).blocks + need command.blocks (sizes_in s.namespace (loaded_at s command.slot)) ≤ s.namespace.capacity
