-- Where a run that was kept goes on.
use Rattle.std.specs.Prelude.{true, ℕ, ◌≡◌, ◌≢◌, ◌<◌, ◌≤◌, ◌+◌, ◌-◌, ◌*◌, ◌^◌, List, length, map, get_or, Option, Some, None, ◌⊎◌}
use Rattle.common_definitions.specs.Bytes.{AreBytes}
use Rattle.program_interface.specs.declared.block_size.TheConstants.{LARGEST_BLOCK}
use Rattle.zone_state.specs.State.{is_open}
use Rattle.nvme_entry.specs.declared.command.RunCommand.{RunCommand}
use Rattle.image_store.specs.Namespace.{ZonedNamespace, zone_at}
use Rattle.image_store.specs.declared.geometry.ZoneBlock.{ZoneBlock}
use Rattle.zns_commands.specs.Address.{zone_block_in, zone_number, zone_offset}
use Rattle.nvme_entry.specs.declared.command.TheConstants.{MOST_BLOCKS}
use Rattle.emit_append.specs.Need.{need_behind}
use Rattle.word_domain.specs.declared.domain.Domain.{Ghosts}
use Rattle.verifier.specs.Verified.{sizes_of}
use Rattle.device_meaning.specs.Admission.{granted_sizes}
use Rattle.device_meaning.specs.BlockRuns.{AreScratch}
use Rattle.device_meaning.specs.View.{Active}
use Rattle.runner.specs.DeviceState.{active_of, loaded_slot}
use Rattle.runner.specs.Restored.{CanGoOn}
use Rattle.runner.specs.steps.Ready.{AreWritten, IsForBlocks, IsRunning}
use Rattle.runner.specs.declared.active_run.ActiveRun.{ActiveRun}
use Rattle.runner.specs.declared.loaded_program.LoadedProgram.{LoadedProgram}

-- the source blocks of a Run are written
abbrev pub AreSourcesWritten : ZonedNamespace → RunCommand → Type 0
AreSourcesWritten ns command = zone_offset ns command.lba + command.blocks ≤ length (zone_at ns (zone_number ns command.lba)).blocks

-- the first of them is here
pub record IsSource (ns : ZonedNamespace) (command : RunCommand) (first : ZoneBlock) : Type 0 where
  pub is : first ≡ zone_block_in ns command.lba
  pub written : AreWritten ns first command.blocks
  pub small : first.offset + command.blocks < 2 ^ 32
  pub address : command.lba < 2 ^ 36

-- a zone that a run may go on to append to: it is open as long as it isn't filled
abbrev pub IsOpened : ZonedNamespace → ℕ → Type 0
IsOpened ns z = (is_open (zone_at ns z).state ≡ true) ⊎ (length (zone_at ns z).blocks ≡ ns.capacity)

-- a Run appends to this one
pub record IsDestination (ns : ZonedNamespace) (command : RunCommand) (z : ℕ) : Type 0 where
  pub is : z ≡ zone_number ns command.destination
  pub inside : z < length ns.zones
  pub opened : IsOpened ns z

-- what a run that was kept counts, and what it has of a block, is what one can
pub record CountsFit (block : ℕ) (a : Active) : Type 0 where
  pub left : a.so_far.index < a.command.blocks
  pub frames : a.so_far.frames ≤ a.so_far.index * LARGEST_BLOCK
  pub appended : a.so_far.appended ≤ a.so_far.index
  pub pending : length a.so_far.pending ≤ block

module _ {D : Type 0} {domain : Ghosts D} where
  -- the active run that goes on is the one that was kept
  pub record IsAgain (ns : ZonedNamespace) (slots : List (Option (LoadedProgram D domain))) (a : Active) (active : ActiveRun) : Type 0 where
    pub seen : active_of active ≡ a
    pub can : CanGoOn ns (map loaded_slot slots) a
    pub running : IsRunning ns slots active

  -- what the tests of a run that was kept have found
  pub record HasPassed (ns : ZonedNamespace) (slots : List (Option (LoadedProgram D domain))) (p : LoadedProgram D domain) (source : ZoneBlock) (destination : ℕ) (a : Active) : Type 0 where
    pub loaded : get_or slots a.command.slot None ≡ Some p
    pub accepted : IsForBlocks ns p
    pub counts : CountsFit ns.block a
    pub source_is : IsSource ns a.command source
    pub destination_is : IsDestination ns a.command destination
    pub other : source.zone ≢ destination
    pub scratch : AreScratch a.so_far.scratch
    pub bytes : AreBytes a.so_far.pending
    pub most : a.command.blocks ≤ MOST_BLOCKS
    pub room : length (zone_at ns destination).blocks
        + need_behind (length a.so_far.pending) (a.command.blocks - a.so_far.index) (granted_sizes ns (sizes_of p.prepared).limit) ≤ ns.capacity
