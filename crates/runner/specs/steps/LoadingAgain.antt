-- A program that is refused when it is loaded again.
use Rattle.std.specs.Prelude.{ℕ, ◌≡◌, ◌<◌, List, length, get_or, Option, Some, None, IfSome, Err}
use Rattle.nvme_entry.specs.declared.program_slot.TheConstants.{PROGRAM_SLOTS}
use Rattle.program_interface.specs.RunSizes.{Sizes}
use Rattle.word_domain.specs.declared.domain.Domain.{Ghosts}
use Rattle.verifier.specs.Verified.{sizes_of}
use Rattle.device_meaning.specs.Judging.{Judge, ProgramRefused, judge_by}
use Rattle.kept_device.specs.Kept.{slot_told}
use Rattle.kept_device.specs.declared.kept.KeptProgram.{KeptProgram}
use Rattle.runner.specs.DeviceState.{loaded_slot}
use Rattle.runner.specs.Keeping.{slot_again}
use Rattle.runner.specs.Restored.{IsOfBytes}
use Rattle.runner.specs.declared.loaded_program.LoadedProgram.{LoadedProgram}

-- the judge refuses these bytes
pub record IsRefused (judge : Judge) (bytes : List ℕ) (sizes : Sizes) : Type 0 where
  pub why : ProgramRefused
  pub refused : judge bytes sizes ≡ Err why

-- the first of the slots are again what was kept of them
pub record AreAgain {D : Type 0} {domain : Ghosts D} (block : ℕ) (kept : List (Option KeptProgram)) (slots : List (Option (LoadedProgram D domain))) (n : ℕ)
    : Type 0 where
  pub number : length slots ≡ PROGRAM_SLOTS
  pub each : (k : ℕ) → k < n → slot_again (judge_by domain.operations) block (slot_told (get_or kept k None))
      ≡ Some (loaded_slot (get_or slots k None))
  pub sizes : (k : ℕ) (p : LoadedProgram D domain) → get_or slots k None ≡ Some p → (sizes_of p.prepared).block ≡ block
  pub bytes : (k : ℕ) → k < n → IfSome (slot_told (get_or kept k None)) IsOfBytes

-- one of the slots is nothing again
pub record AreNotAgain (judge : Judge) (block : ℕ) (kept : List (Option KeptProgram)) : Type 0 where
  pub slot : ℕ
  pub inside : slot < PROGRAM_SLOTS
  pub refused : slot_again judge block (slot_told (get_or kept slot None)) ≡ None
