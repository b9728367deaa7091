-- The runs of a device that were kept, and go on.
use Rattle.std.specs.Prelude.{ℕ, false, ◌≡◌, ◌<◌, ◌⊎◌, List, length, map, get_or, Option, Some, None, IfSome, IsSomeAnd}
use Rattle.zone_resources.specs.Holds.{is_destination}
use Rattle.zone_resources.specs.declared.holds.TheConstants.{RUNS}
use Rattle.image_store.specs.Namespace.{ZonedNamespace}
use Rattle.word_domain.specs.declared.domain.Domain.{Ghosts}
use Rattle.device_meaning.specs.Admission.{destination_zone}
use Rattle.device_meaning.specs.View.{Active}
use Rattle.kept_device.specs.Kept.{place_told}
use Rattle.kept_device.specs.declared.kept.KeptRun.{KeptRun}
use Rattle.runner.specs.DeviceState.{active_of, loaded_slot, running}
use Rattle.runner.specs.Restored.{CanAllGoOn, CanGoOn}
use Rattle.runner.specs.declared.active_run.ActiveRun.{ActiveRun}
use Rattle.runner.specs.declared.loaded_program.LoadedProgram.{LoadedProgram}
use Rattle.runner.specs.steps.ActiveRuns.{held_by}
use Rattle.runner.specs.steps.RunningAgain.{IsAgain}

module _ {D : Type 0} {domain : Ghosts D} (ns : ZonedNamespace) (slots : List (Option (LoadedProgram D domain))) where
  -- a run goes on, and appends to a zone that none of these does
  pub record GoesOnBeside (runs : List (Option ActiveRun)) (a : ActiveRun) : Type 0 where
    pub again : IsAgain ns slots (active_of a) a
    pub alone : is_destination (held_by runs) a.destination ≡ false

  -- what goes on at a place
  pub record IsPlaceAgain (runs : List (Option ActiveRun)) (kept : Option KeptRun) (place : Option ActiveRun) : Type 0 where
    pub seen : running place ≡ place_told kept
    pub goes : IfSome place (GoesOnBeside runs)

  -- a run appends to the zone that one of these does
  pub record IsBesideOne (runs : List (Option ActiveRun)) (a : Active) : Type 0 where
    pub run : ℕ
    pub other : ActiveRun
    pub there : get_or runs run None ≡ Some other
    pub same : other.destination ≡ destination_zone ns a.command

  -- the run that was kept of a place can't go on, or not beside these
  abbrev pub IsStuck : List (Option ActiveRun) → Option KeptRun → Type 0
  IsStuck runs kept = IsSomeAnd (place_told kept) (λ a. (CanGoOn ns (map loaded_slot slots) a → ⊥) ⊎ IsBesideOne runs a)

  -- the first of the runs go on
  pub record AreGoing (kept : List (Option KeptRun)) (runs : List (Option ActiveRun)) (n : ℕ) : Type 0 where
    pub number : length runs ≡ RUNS
    pub each : (k : ℕ) → k < n → running (get_or runs k None) ≡ place_told (get_or kept k None)
    pub first : (k : ℕ) (a : ActiveRun) → get_or runs k None ≡ Some a → k < n
    pub going : (k : ℕ) (a : ActiveRun) → get_or runs k None ≡ Some a → IsAgain ns slots (active_of a) a
    pub apart : (j k : ℕ) (a b : ActiveRun) → get_or runs j None ≡ Some a → get_or runs k None ≡ Some b → a.destination ≡ b.destination
        → j ≡ k

  -- they can't all go on
  abbrev pub AreStuck : List (Option KeptRun) → Type 0
  AreStuck kept = CanAllGoOn ns (map loaded_slot slots) (map place_told kept) → ⊥
