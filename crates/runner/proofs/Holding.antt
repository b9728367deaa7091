-- What the active runs hold.
use Rattle.std.proofs.Common.{◌≡◌, ℕ, zero, suc, List, [], ◌∷◌, map, get_or, Option, Some, None, refl, ap, ◌∙◌}
use Rattle.image_store.specs.declared.geometry.ZoneBlock.{ZoneBlock}
use Rattle.image_store.specs.Namespace.{ZonedNamespace}
use Rattle.word_domain.specs.declared.domain.Domain.{Ghosts}
use Rattle.device_meaning.specs.Admission.{Loaded}
use Rattle.device_meaning.specs.State.{Place, destination_of, holds_at, source_of}
use Rattle.device_meaning.specs.View.{seen}
use Rattle.runner.specs.DeviceState.{loaded_slot, running, device_state}
use Rattle.runner.specs.steps.ActiveRuns.{destination_held, held_by, source_held}
use Rattle.runner.specs.steps.Ready.{FitsNamespace, IsReady}
use Rattle.runner.specs.declared.active_run.ActiveRun.{ActiveRun}
use Rattle.runner.specs.declared.loaded_program.LoadedProgram.{LoadedProgram}

-- there is no run at a place, or it fits
abbrev NoneOrFits : ZonedNamespace → Option ActiveRun → Type 0
NoneOrFits ns r = (a : ActiveRun) → r ≡ Some a → FitsNamespace ns a

abbrev AllFit : ZonedNamespace → List (Option ActiveRun) → Type 0
AllFit ns runs = (k : ℕ) → NoneOrFits ns (get_or runs k None)

module _ (ns : ZonedNamespace) (slots : List (Option Loaded)) where
  source_is : (r : Option ActiveRun) → NoneOrFits ns r → source_held r ≡ source_of (seen ns slots (running r))
  source_is None fit = refl
  source_is (Some a) fit = ap (λ (place : ZoneBlock). Some place.zone) (fit a refl).source

  destination_is : (r : Option ActiveRun) → NoneOrFits ns r → destination_held r ≡ destination_of (seen ns slots (running r))
  destination_is None fit = refl
  destination_is (Some a) fit = ap (λ (zone : ℕ). Some zone) (fit a refl).destination

  -- what each run holds of one kind is what its place does
  held_are : (held : Option ActiveRun → Option ℕ) (of : Option Place → Option ℕ)
      → ((r : Option ActiveRun) → NoneOrFits ns r → held r ≡ of (seen ns slots (running r)))
      → (runs : List (Option ActiveRun)) → AllFit ns runs → map held runs ≡ map of (map (seen ns slots) (map running runs))
  held_are held of same [] fit = refl
  held_are held of same (r ∷ runs) fit =
      ap (λ (zone : Option ℕ). zone ∷ map held runs) (same r (fit zero))
      ∙ ap (λ (zones : List (Option ℕ)). of (seen ns slots (running r)) ∷ zones) (held_are held of same runs (λ k. fit (suc k)))

module _ {D : Type 0} {domain : Ghosts D} where
  pub holds_are : (ns : ZonedNamespace) (slots : List (Option (LoadedProgram D domain))) (runs : List (Option ActiveRun)) → IsReady ns slots runs
      → held_by runs ≡ holds_at (device_state ns slots runs)
  holds_are ns slots runs ready =
      let fit : AllFit ns runs = λ k a at. (ready.running k a at).fits in
      let seen_slots = map loaded_slot slots in
      ap (λ (held : List (Option ℕ)). record { sources = held; destinations = map destination_held runs })
      (held_are ns seen_slots source_held source_of (source_is ns seen_slots) runs fit)
      ∙ ap (λ (held : List (Option ℕ)). record { sources = map source_of (device_state ns slots runs).places; destinations = held })
      (held_are ns seen_slots destination_held destination_of (destination_is ns seen_slots) runs fit)
