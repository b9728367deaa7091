-- What active runs need is kept for them.
use Rattle.std.proofs.Common.{◌≡◌, ◌≢◌, ℕ, zero, suc, Bool, true, List, [], ◌∷◌, map, set, get_or, Option, Some, None, refl, ap, sym, subst, ◌∙◌, get_or-set_other}
use Rattle.std.specs.Prelude.{not}
use Rattle.std.specs.List.{list_any}
use Rattle.std.proofs.lemmas.Bool.{eq-eqb, not-true}
use Rattle.std.proofs.lemmas.List.Folds.{list_any_at}
use Rattle.zone_state.specs.declared.status.TheConstants.Status.{PROGRAM_IN_USE}
use Rattle.zone_resources.specs.Holds.{is_source, names}
use Rattle.zone_resources.specs.declared.holds.Holds.{Holds}
use Rattle.common_definitions.specs.Checks.{first_failed}
use Rattle.common_definitions.proofs.Proved.{demanded, passed}
use Rattle.nvme_entry.specs.declared.command.LoadCommand.{LoadCommand}
use Rattle.device_meaning.specs.Judging.{Judge}
use Rattle.image_store.specs.Namespace.{zone_at}
use Rattle.zns_commands.proofs.Proved.{grows_by_none, held_sources_keep_blocks, shapes_are_kept}
use Rattle.zone_resources.proofs.Proved.{runs_name_zones, there}
use Rattle.device_meaning.specs.Admission.{Loaded, SameProgram}
use Rattle.device_meaning.specs.Laws.{EventsKeepForRuns, KeepsFor}
use Rattle.device_meaning.specs.Happenings.{happens, just_loaded, keeping, load_checks, slots_left}
use Rattle.device_meaning.specs.Outcome.{Ending}
use Rattle.device_meaning.specs.State.{Place, State, in_use, loaded_at, place_at, source_of, uses}
use Rattle.device_events.specs.ToldEvents.{ToldEvent}
use Rattle.device_meaning.proofs.Added.{added_grows, added_shape}
use Rattle.device_meaning.proofs.Changes.{after_event}

-- ---- programs

-- a slot that stays as it is has the same program
pub same_program : (slot : Option Loaded) → SameProgram slot slot
same_program slot = record { loaded = refl; program = refl; limit = refl }

keeping_same : (slot : Option Loaded) (bytes : Option (List ℕ)) → SameProgram slot (keeping slot bytes)
keeping_same (Some loaded) (Some bytes) = record { loaded = refl; program = refl; limit = refl }
keeping_same (Some loaded) None = same_program (Some loaded)
keeping_same None bytes = same_program None

-- where a slot gets the same program again, each slot has the same
set_program : (slots : List (Option Loaded)) (i j : ℕ) (new : Option Loaded) → SameProgram (get_or slots i None) new
    → SameProgram (get_or slots j None) (get_or (set slots i new) j None)
set_program [] i j new same = same_program None
set_program (x ∷ xs) zero zero new same = same
set_program (x ∷ xs) zero (suc j) new same = same_program (get_or xs j None)
set_program (x ∷ xs) (suc i) zero new same = same_program x
set_program (x ∷ xs) (suc i) (suc j) new same = set_program xs i j new same

-- a turn leaves each slot its program
pub left_program : (s : State) (p : Place) (ending : Option Ending) (slot : ℕ)
    → SameProgram (loaded_at s slot) (get_or (slots_left s p ending) slot None)
left_program s p None slot = same_program (loaded_at s slot)
left_program s p (Some ending) slot =
    let old = loaded_at s p.slot in set_program s.slots p.slot slot (keeping old ending.result) (keeping_same old ending.result)

-- ---- what an active run holds

source_at : (places : List (Option Place)) (run : ℕ) (place : Place) → get_or places run None ≡ Some place
    → list_any (names place.source) (map source_of places) ≡ true
source_at places run place at = runs_name_zones source_of place.source places run place at refl

used_at : (places : List (Option Place)) (run : ℕ) (place : Place) → get_or places run None ≡ Some place
    → list_any (uses place.slot) places ≡ true
used_at places run place at =
    list_any_at (uses place.slot) places run None (there places run place at) (ap (uses place.slot) at ∙ eq-eqb place.slot place.slot refl)

-- ---- events

unchanged : (place : Place) (s : State) → KeepsFor place s s
unchanged place s = record { source = grows_by_none (zone_at s.namespace place.source).blocks; program = same_program (loaded_at s place.slot); shape_kept = refl }

-- a Load doesn't take the slot of an active run
pub not_loaded : (s : State) (run : ℕ) (place : Place) (load : LoadCommand) (input : List ℕ) → place_at s run ≡ Some place
    → first_failed (load_checks s load input) ≡ None → place.slot ≢ load.slot
not_loaded s run place load input at none same =
    let free = not-true (in_use s load.slot) (demanded (not (in_use s load.slot)) PROGRAM_IN_USE (passed (load_checks s load input) 3 none)) in
    let used : in_use s load.slot ≡ true = subst (λ (n : ℕ). list_any (uses n) s.places ≡ true) same (used_at s.places run place at) in
    cc

module _ (judge : Judge) where
  event_keeps : (s : State) (starved : Bool) (e : ToldEvent) (run : ℕ) (place : Place) → place_at s run ≡ Some place
      → KeepsFor place s (happens judge s starved e).state
  event_keeps s starved e run place at = after_event judge (KeepsFor place s) s starved e (record {
    same = unchanged place s;
    step = λ step same is. record {
      source = held_sources_keep_blocks step s.namespace place.source
          (subst (λ (holds : Holds). is_source holds place.source ≡ true) (sym same) (source_at s.places run place at));
      program = same_program (loaded_at s place.slot);
      shape_kept = shapes_are_kept step s.namespace;
    };
    load = λ sub load t are takes.
        let new = Some (just_loaded takes.program load.limit) in
        let other = get_or-set_other s.slots load.slot place.slot new None (not_loaded s run place load sub.input at takes.passed) in
        record {
          source = grows_by_none (zone_at s.namespace place.source).blocks;
          program = subst (SameProgram (loaded_at s place.slot)) (sym other) (same_program (loaded_at s place.slot));
          shape_kept = refl;
        };
    start = λ sub command first passed free some. record {
      source = grows_by_none (zone_at s.namespace place.source).blocks;
      program = same_program (loaded_at s place.slot);
      shape_kept = refl;
    };
    turn = λ other p turn later is there first. record {
      source = added_grows s.namespace p.destination place.source turn.blocks;
      program = left_program s p turn.ending place.slot;
      shape_kept = added_shape s.namespace p.destination turn.blocks;
    };
  })

  pub events_keep_for_runs : EventsKeepForRuns judge
  events_keep_for_runs s o run place at = event_keeps s o.starved o.event run place at
