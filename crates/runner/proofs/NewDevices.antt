-- Devices without a program or a run.
use Rattle.std.proofs.Common.{◌≡◌, ◌≢◌, ℕ, Bool, true, false, List, [], ◌∷◌, length, map, replicate, Option, Some, None, option_map, refl, sym, subst, ◌∙◌, ap}
use Rattle.std.specs.Prelude.{is_some, not}
use Rattle.std.specs.List.{list_any}
use Rattle.nvme_entry.specs.declared.program_slot.TheConstants.{PROGRAM_SLOTS}
use Rattle.zone_resources.specs.declared.holds.TheConstants.{RUNS}
use Rattle.image_store.specs.Namespace.{ZonedNamespace}
use Rattle.word_domain.specs.declared.domain.Domain.{Ghosts}
use Rattle.device_meaning.specs.Admission.{Loaded}
use Rattle.device_meaning.specs.State.{Place, State, new_state}
use Rattle.device_meaning.specs.View.{Active, place_of, seen}
use Rattle.runner.specs.DeviceState.{active_of, device_state, loaded_of, loaded_slot, running}
use Rattle.runner.specs.declared.active_run.ActiveRun.{ActiveRun}
use Rattle.runner.specs.declared.loaded_program.LoadedProgram.{LoadedProgram}

-- where nothing is at any place, nothing is seen there
none_seen : {A B : Type 0} (f : A → B) (xs : List (Option A)) → list_any is_some xs ≡ false → map (option_map f) xs ≡ replicate (length xs) None
none_seen f [] none = refl
none_seen f (None ∷ xs) none = ap (λ (rest : List (Option _)). None ∷ rest) (none_seen f xs none)
none_seen f (Some x ∷ xs) none = absurd cc

-- what is seen at some place is there
some_seen : {A B : Type 0} (f : A → B) (xs : List (Option A)) → list_any is_some (map (option_map f) xs) ≡ list_any is_some xs
some_seen f [] = refl
some_seen f (None ∷ xs) = some_seen f xs
some_seen f (Some x ∷ xs) = refl

module _ {D : Type 0} {domain : Ghosts D} (ns : ZonedNamespace) (slots : List (Option (LoadedProgram D domain))) (runs : List (Option ActiveRun)) where
  -- such a device is as a new one
  pub bare_is_new : length slots ≡ PROGRAM_SLOTS → length runs ≡ RUNS → list_any is_some slots ≡ false → list_any is_some runs ≡ false
      → device_state ns slots runs ≡ new_state ns
  bare_is_new slot_count run_count no_program no_run =
      let programs : map loaded_slot slots ≡ replicate PROGRAM_SLOTS None =
      none_seen loaded_of slots no_program ∙ ap (λ (n : ℕ). replicate {A = Option Loaded} n None) slot_count in
      let active : map running runs ≡ replicate RUNS None =
      none_seen active_of runs no_run ∙ ap (λ (n : ℕ). replicate {A = Option Active} n None) run_count in
      ap (λ (found : List (Option Active)). with_places (map loaded_slot slots) (map (seen ns (map loaded_slot slots)) found)) active
      ∙ ap (λ (found : List (Option Loaded)). with_places found (replicate RUNS None)) programs
    where
      with_places : List (Option Loaded) → List (Option Place) → State
      with_places found places = record { namespace = ns; slots = found; places = places }

  -- and a new one is such a device
  pub new_has_no_program : device_state ns slots runs ≡ new_state ns → list_any is_some slots ≡ false
  new_has_no_program is = sym (some_seen loaded_of slots) ∙ ap (λ (s : State). list_any is_some s.slots) is

  pub new_has_no_run : device_state ns slots runs ≡ new_state ns → list_any is_some runs ≡ false
  new_has_no_run is =
      sym (some_seen active_of runs) ∙ sym (some_seen (place_of ns (map loaded_slot slots)) (map running runs))
      ∙ ap (λ (s : State). list_any is_some s.places) is

  module _ (s : State) (seen_as : device_state ns slots runs ≡ s) where
    same_namespace : device_state ns slots runs ≡ new_state ns → s ≡ new_state s.namespace
    same_namespace is = subst (λ (t : State). t ≡ new_state t.namespace) seen_as is

    same_device : s ≡ new_state s.namespace → device_state ns slots runs ≡ new_state ns
    same_device is = subst (λ (t : State). t ≡ new_state t.namespace) (sym seen_as) is

    -- where no program is in a slot, it is as a new one just where no run is active
    pub new_if_idle : length slots ≡ PROGRAM_SLOTS → length runs ≡ RUNS → list_any is_some slots ≡ false → (active : Bool)
        → active ≡ list_any is_some runs → not active ≡ true → s ≡ new_state s.namespace
    new_if_idle slot_count run_count no_program true any is = absurd cc
    new_if_idle slot_count run_count no_program false any is = same_namespace (bare_is_new slot_count run_count no_program (sym any))

    pub old_if_active : (active : Bool) → active ≡ list_any is_some runs → not active ≡ false → s ≢ new_state s.namespace
    old_if_active true any is = λ new. let none = new_has_no_run (same_device new) in cc (any, none)
    old_if_active false any is = absurd cc

    -- and where one is, it isn't
    pub old_if_loaded : (loaded : Bool) → loaded ≡ list_any is_some slots → not loaded ≡ false → s ≢ new_state s.namespace
    old_if_loaded true any is = λ new. let none = new_has_no_program (same_device new) in cc (any, none)
    old_if_loaded false any is = absurd cc
