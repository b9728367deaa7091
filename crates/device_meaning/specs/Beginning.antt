-- What a device may begin with: a namespace, and programs and runs that a device kept.
use Rattle.std.specs.Prelude.{true, ℕ, ◌≡◌, ◌≢◌, ◌<◌, ◌≤◌, ◌+◌, ◌-◌, ◌*◌, List, length, map, get_or, Option, Some, None, Ok, is_some, ◌⊎◌}
use Rattle.common_definitions.specs.Bytes.{AreBytes}
use Rattle.zone_state.specs.State.{is_open}
use Rattle.program_interface.specs.declared.block_size.TheConstants.{LARGEST_BLOCK}
use Rattle.zone_resources.specs.declared.holds.TheConstants.{RUNS}
use Rattle.nvme_entry.specs.declared.program_slot.TheConstants.{PROGRAM_SLOTS}
use Rattle.image_store.specs.Namespace.{IsNamespace, ZoneWithBlocks, ZonedNamespace, zone_at}
use Rattle.zns_commands.specs.Address.{zone_offset}
use Rattle.emit_append.specs.Need.{need_behind}
use Rattle.device_meaning.specs.Admission.{Loaded, destination_zone, sizes_in, source_zone}
use Rattle.device_meaning.specs.BlockRuns.{AreScratch}
use Rattle.device_meaning.specs.Judging.{Judge}
use Rattle.device_meaning.specs.Outcome.{appended_by}
use Rattle.device_meaning.specs.State.{State, loaded_at}
use Rattle.device_meaning.specs.View.{Active, place_of, seen}

-- A run that was begun and isn't ended: its program is loaded; a source block is still to come, and all are written, in another zone than
-- it appends to; it has scratch bytes, and of a block that isn't appended yet no more than one has. It counts no more frames and blocks
-- than its blocks so far can give: so what its completion says of them is less than 2^32, and nothing of it is cut off.
pub record WasBegun (ns : ZonedNamespace) (slots : List (Option Loaded)) (a : Active) : Type 0 where
  pub loaded : is_some (get_or slots a.command.slot None) ≡ true
  pub left : a.so_far.index < a.command.blocks
  pub written : zone_offset ns a.command.lba + a.command.blocks ≤ length (zone_at ns (source_zone ns a.command)).blocks
  pub other : source_zone ns a.command ≢ destination_zone ns a.command
  pub scratch : AreScratch a.so_far.scratch
  pub pending : length a.so_far.pending ≤ ns.block
  pub bytes : AreBytes a.so_far.pending
  pub frames : a.so_far.frames ≤ a.so_far.index * LARGEST_BLOCK
  pub appended : a.so_far.appended ≤ a.so_far.index

-- the zone that a run appends to
abbrev pub destination_in : ZonedNamespace → Active → ZoneWithBlocks
destination_in ns a = zone_at ns (destination_zone ns a.command)

-- a run that was begun and may go on: what is left of it fits into its destination, which is open as long as it isn't filled
pub record MayGoOn (ns : ZonedNamespace) (slots : List (Option Loaded)) (a : Active) : Type 0 where
  pub begun : WasBegun ns slots a
  pub room : length (destination_in ns a).blocks + length (appended_by (place_of ns slots a).turns) ≤ ns.capacity
  pub opened : (is_open (destination_in ns a).state ≡ true) ⊎ (length (destination_in ns a).blocks ≡ ns.capacity)

module _ (judge : Judge) where
  -- a program that was loaded: what the judge makes of some bytes, for a limit of at most a block, with a result
  pub record WasLoaded (ns : ZonedNamespace) (loaded : Loaded) : Type 0 where
    pub bytes : List ℕ
    pub are : AreBytes bytes
    pub limit : loaded.limit ≤ ns.block
    pub accepted : judge bytes (sizes_in ns (Some loaded)) ≡ Ok loaded.program
    pub result : AreScratch loaded.result

  -- A device may begin with a sound namespace, programs that were loaded, and runs that may go on, no two of which append to one zone. It
  -- has of each run the turns that are left of it.
  pub record MayBegin (s : State) : Type 0 where
    pub runs : List (Option Active)
    pub places : s.places ≡ map (seen s.namespace s.slots) runs
    pub namespace : IsNamespace s.namespace
    pub slot_number : length s.slots ≡ PROGRAM_SLOTS
    pub place_number : length runs ≡ RUNS
    pub programs : (slot : ℕ) (loaded : Loaded) → loaded_at s slot ≡ Some loaded → WasLoaded s.namespace loaded
    pub going : (run : ℕ) (a : Active) → get_or runs run None ≡ Some a → MayGoOn s.namespace s.slots a
    pub apart : (j k : ℕ) (a b : Active) → get_or runs j None ≡ Some a → get_or runs k None ≡ Some b
        → destination_zone s.namespace a.command ≡ destination_zone s.namespace b.command → j ≡ k

-- What is left of a run that was begun comes to no more blocks than may be needed for its source blocks still to come, behind what it has
-- of a block: so that it fits can be told without its program.
abbrev pub LeftIsWithinNeed : Judge → Type 0
LeftIsWithinNeed judge =
    (ns : ZonedNamespace) (slots : List (Option Loaded)) (a : Active) (loaded : Loaded) → IsNamespace ns → WasBegun ns slots a
    → get_or slots a.command.slot None ≡ Some loaded → WasLoaded judge ns loaded
    → length (appended_by (place_of ns slots a).turns)
    ≤ need_behind (length a.so_far.pending) (a.command.blocks - a.so_far.index) (sizes_in ns (Some loaded))
