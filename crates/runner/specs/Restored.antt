-- What a device is restored to, of what was kept of programs and runs.
use Rattle.std.specs.Prelude.{true, ℕ, ◌≡◌, ◌<◌, ◌≤◌, ◌+◌, ◌-◌, List, length, map, get_or, Option, Some, None, ◌⊎◌}
use Rattle.common_definitions.specs.Bytes.{AreBytes}
use Rattle.zone_state.specs.State.{is_open}
use Rattle.zone_resources.specs.declared.holds.TheConstants.{RUNS}
use Rattle.nvme_entry.specs.declared.program_slot.TheConstants.{PROGRAM_SLOTS}
use Rattle.image_store.specs.Namespace.{IsNamespace, ZonedNamespace}
use Rattle.emit_append.specs.Need.{need_behind}
use Rattle.device_meaning.specs.Admission.{Loaded, destination_zone, sizes_in}
use Rattle.device_meaning.specs.Beginning.{MayBegin, WasBegun, destination_in}
use Rattle.device_meaning.specs.BlockRuns.{AreScratch}
use Rattle.device_meaning.specs.Judging.{Judge, interval_judge}
use Rattle.device_meaning.specs.State.{State}
use Rattle.device_meaning.specs.View.{Active, seen}
use Rattle.kept_device.specs.Kept.{SavedProgram}
use Rattle.runner.specs.Keeping.{slot_again}

-- A run that was kept can go on: what is left of it fits into its destination, however long the groups of its program are, so that this
-- is known without running it.
pub record CanGoOn (ns : ZonedNamespace) (slots : List (Option Loaded)) (a : Active) : Type 0 where
  pub begun : WasBegun ns slots a
  pub room : length (destination_in ns a).blocks
      + need_behind (length a.so_far.pending) (a.command.blocks - a.so_far.index) (sizes_in ns (get_or slots a.command.slot None)) ≤ ns.capacity
  pub opened : (is_open (destination_in ns a).state ≡ true) ⊎ (length (destination_in ns a).blocks ≡ ns.capacity)

-- all of the runs can, and no two append to one zone
pub record CanAllGoOn (ns : ZonedNamespace) (slots : List (Option Loaded)) (runs : List (Option Active)) : Type 0 where
  pub going : (run : ℕ) (a : Active) → get_or runs run None ≡ Some a → CanGoOn ns slots a
  pub apart : (j k : ℕ) (a b : Active) → get_or runs j None ≡ Some a → get_or runs k None ≡ Some b
      → destination_zone ns a.command ≡ destination_zone ns b.command → j ≡ k

-- what was kept of a program is bytes
pub record IsOfBytes (p : SavedProgram) : Type 0 where
  pub bytes : AreBytes p.bytes
  pub result : AreScratch p.result

-- By a judge of programs.
module _ (judge : Judge) where
  -- What was kept tells this state: the namespace; in each slot the program that is made of its bytes, accepted again; at each place the run,
  -- which can go on; and no two of these append to one zone.
  pub record IsRestoredBy (ns : ZonedNamespace) (programs : List (Option SavedProgram)) (runs : List (Option Active)) (s : State) : Type 0 where
    pub namespace : s.namespace ≡ ns
    pub program_number : length programs ≡ PROGRAM_SLOTS
    pub slot_number : length s.slots ≡ PROGRAM_SLOTS
    pub slots : (k : ℕ) → k < PROGRAM_SLOTS → slot_again judge ns.block (get_or programs k None) ≡ Some (get_or s.slots k None)
    pub place_number : length runs ≡ RUNS
    pub places : s.places ≡ map (seen ns s.slots) runs
    pub runs_go : CanAllGoOn ns s.slots runs

  -- it tells none
  abbrev pub TellNoneBy : ZonedNamespace → List (Option SavedProgram) → List (Option Active) → Type 0
  TellNoneBy ns programs runs = (s : State) → IsRestoredBy ns programs runs s → ⊥

  -- It tells no other.
  abbrev pub OneIsRestored : Type 0
  OneIsRestored =
      (ns : ZonedNamespace) (programs : List (Option SavedProgram)) (runs : List (Option Active)) (s t : State)
      → IsRestoredBy ns programs runs s → IsRestoredBy ns programs runs t → s ≡ t

  -- A device may begin in it.
  abbrev pub RestoredMayBegin : Type 0
  RestoredMayBegin =
      (ns : ZonedNamespace) (programs : List (Option SavedProgram)) (runs : List (Option Active)) (s : State) → IsNamespace ns
      → ((k : ℕ) (p : SavedProgram) → k < PROGRAM_SLOTS → get_or programs k None ≡ Some p → IsOfBytes p) → IsRestoredBy ns programs runs s
      → MayBegin judge s

-- by the judge of the device
abbrev pub IsRestored : ZonedNamespace → List (Option SavedProgram) → List (Option Active) → State → Type 0
IsRestored = IsRestoredBy interval_judge

abbrev pub TellNone : ZonedNamespace → List (Option SavedProgram) → List (Option Active) → Type 0
TellNone = TellNoneBy interval_judge
