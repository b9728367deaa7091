-- What holds of all that a device has.
use Rattle.std.specs.Prelude.{ℕ, ◌≡◌, ◌≢◌, ◌<◌, ◌≤◌, ◌+◌, ◌-◌, ◌*◌, ◌^◌, List, length, get_or, Option, Some, None}
use Rattle.program_interface.specs.declared.block_size.TheConstants.{LARGEST_BLOCK}
use Rattle.word_domain.specs.declared.domain.Domain.{Ghosts}
use Rattle.verifier.specs.Verified.{sizes_of}
use Rattle.nvme_entry.specs.declared.command.TheConstants.{MOST_BLOCKS}
use Rattle.image_store.specs.Namespace.{ZonedNamespace, zone_at}
use Rattle.image_store.specs.declared.geometry.ZoneBlock.{ZoneBlock}
use Rattle.zns_commands.specs.Address.{zone_number, zone_block_in}
use Rattle.emit_append.specs.Need.{need_behind}
use Rattle.device_meaning.specs.Admission.{granted_sizes}
use Rattle.runner.specs.declared.active_run.ActiveRun.{ActiveRun}
use Rattle.runner.specs.declared.loaded_program.LoadedProgram.{LoadedProgram}

-- so many blocks from this one on are written
abbrev pub AreWritten : ZonedNamespace → ZoneBlock → ℕ → Type 0
AreWritten ns first blocks = first.offset + blocks ≤ length (zone_at ns first.zone).blocks

-- what holds of each active run, whatever its program
pub record FitsNamespace (ns : ZonedNamespace) (a : ActiveRun) : Type 0 where
  pub source : a.source ≡ zone_block_in ns a.command.lba
  pub destination : a.destination ≡ zone_number ns a.command.destination
  pub other : a.source.zone ≢ a.destination
  pub left : a.index < a.command.blocks
  pub most : a.command.blocks ≤ MOST_BLOCKS
  pub written : AreWritten ns a.source a.command.blocks
  pub small : a.source.offset + a.command.blocks < 2 ^ 32
  pub address : a.command.lba < 2 ^ 36
  pub packer : a.packer.block ≡ ns.block
  pub frames : a.frames ≤ a.index * LARGEST_BLOCK
  pub appended : a.appended ≤ a.index

-- what is left of a run fits into its destination, however long the groups within this limit are that its program emits
abbrev pub HasRoomLeft : ZonedNamespace → ℕ → ActiveRun → Type 0
HasRoomLeft ns limit a =
    length (zone_at ns a.destination).blocks + need_behind (length a.packer.pending) (a.command.blocks - a.index) (granted_sizes ns limit) ≤ ns.capacity

module _ {D : Type 0} {domain : Ghosts D} where
  -- a program was accepted for the blocks of the namespace
  abbrev pub IsForBlocks : ZonedNamespace → LoadedProgram D domain → Type 0
  IsForBlocks ns p = (sizes_of p.prepared).block ≡ ns.block

  -- and so was each in the slots
  abbrev pub AreForBlocks : ZonedNamespace → List (Option (LoadedProgram D domain)) → Type 0
  AreForBlocks ns slots = (k : ℕ) (p : LoadedProgram D domain) → get_or slots k None ≡ Some p → IsForBlocks ns p

  -- an active run, and the program in its slot
  pub record IsRunning (ns : ZonedNamespace) (slots : List (Option (LoadedProgram D domain))) (a : ActiveRun) : Type 0 where
    pub program : LoadedProgram D domain
    pub loaded : get_or slots a.command.slot None ≡ Some program
    pub accepted : IsForBlocks ns program
    pub fits : FitsNamespace ns a
    pub left : HasRoomLeft ns (sizes_of program.prepared).limit a

  -- the programs of the slots are for the namespace's blocks, each active run can go on, and no two of them append to one zone
  pub record IsReady (ns : ZonedNamespace) (slots : List (Option (LoadedProgram D domain))) (runs : List (Option ActiveRun)) : Type 0 where
    pub programs : AreForBlocks ns slots
    pub running : (k : ℕ) (a : ActiveRun) → get_or runs k None ≡ Some a → IsRunning ns slots a
    pub apart : (j k : ℕ) (a b : ActiveRun) → get_or runs j None ≡ Some a → get_or runs k None ≡ Some b → a.destination ≡ b.destination
        → j ≡ k
