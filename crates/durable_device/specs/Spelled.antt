-- What sections spell of a device.
use Rattle.std.specs.Prelude.{ℕ, List, map, take, drop, Option}
use Rattle.nvme_entry.specs.declared.program_slot.TheConstants.{PROGRAM_SLOTS}
use Rattle.device_meaning.specs.View.{Active}
use Rattle.kept_device.specs.Kept.{SavedProgram, place_told, slot_told}
use Rattle.runner.specs.declared.restoring.KeptDevice.{KeptDevice}
use Rattle.durable_device.specs.Machine.{SpellPrograms, SpellRuns}

-- sections of slots spell no programs, and those of places no runs
abbrev pub SpellNoPrograms : List (List ℕ) → Type 0
SpellNoPrograms sections = (programs : List (Option SavedProgram)) → SpellPrograms sections programs → ⊥

abbrev pub SpellNoRuns : List (List ℕ) → Type 0
SpellNoRuns sections = (runs : List (Option Active)) → SpellRuns sections runs → ⊥

-- the first sections spell the programs that are kept of a device, and the others its runs
pub record SpellKept (sections : List (List ℕ)) (kept : KeptDevice) : Type 0 where
  pub programs : SpellPrograms (take PROGRAM_SLOTS sections) (map slot_told kept.programs.items)
  pub runs : SpellRuns (drop PROGRAM_SLOTS sections) (map place_told kept.runs.items)

-- they spell no programs, or no runs
abbrev pub SpellNothingKept : List (List ℕ) → Type 0
SpellNothingKept sections =
    (programs : List (Option SavedProgram)) (runs : List (Option Active))
    → SpellPrograms (take PROGRAM_SLOTS sections) programs → SpellRuns (drop PROGRAM_SLOTS sections) runs → ⊥
