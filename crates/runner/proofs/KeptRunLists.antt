-- The runs of a device that were kept, and go on.
use Rattle.std.proofs.Common.{◌≡◌, ◌<◌, ◌+◌, ℕ, zero, suc, Bool, true, false, List, [], ◌∷◌, map, set, get_or, replicate, Option, Some, None, IfSome, refl, ap, sym, subst, ◌∙◌, inl, inr, arith, get_or-set_other, get_or-set_same}
use Rattle.std.specs.Prelude.{◌⊎◌, ◌==◌, ◌||◌, IsSomeAnd}
use Rattle.std.specs.List.{list_any}
use Rattle.std.proofs.Math.ListN.{get_or-map}
use Rattle.std.proofs.lemmas.Bool.{cases_lt, eqb-true}
use Rattle.std.proofs.lemmas.List.{length-replicate, length-set}
use Rattle.zone_resources.specs.Holds.{is_destination, names}
use Rattle.zone_resources.specs.declared.holds.TheConstants.{RUNS}
use Rattle.zone_resources.proofs.Proved.{runs_name_zones}
use Rattle.image_store.specs.Namespace.{ZonedNamespace}
use Rattle.accepted_programs.proofs.Proved.{none_known, set_known}
use Rattle.word_domain.specs.declared.domain.Domain.{Ghosts}
use Rattle.device_meaning.specs.Admission.{destination_zone}
use Rattle.device_meaning.specs.View.{Active}
use Rattle.kept_device.specs.Kept.{place_told}
use Rattle.kept_device.specs.declared.kept.KeptRun.{KeptRun}
use Rattle.runner.specs.DeviceState.{active_of, loaded_slot, running}
use Rattle.runner.specs.Restored.{CanGoOn}
use Rattle.runner.specs.declared.active_run.ActiveRun.{ActiveRun}
use Rattle.runner.specs.declared.loaded_program.LoadedProgram.{LoadedProgram}
use Rattle.runner.specs.steps.ActiveRuns.{destination_held, held_by}
use Rattle.runner.specs.steps.RunsAgain.{AreGoing, AreStuck, GoesOnBeside, IsBesideOne, IsPlaceAgain, IsStuck}

-- a zone that is held as a destination is that of a run
record IsHeldBy (runs : List (Option ActiveRun)) (z : ℕ) : Type 0 where
  run : ℕ
  other : ActiveRun
  there : get_or runs run None ≡ Some other
  same : other.destination ≡ z

held_by_next : (runs : List (Option ActiveRun)) (a : ActiveRun) (z : ℕ) (t : Bool) → a.destination == z ≡ t
    → t || list_any (names z) (map destination_held runs) ≡ true → (list_any (names z) (map destination_held runs) ≡ true → IsHeldBy runs z)
    → IsHeldBy (Some a ∷ runs) z
held_by_next runs a z true is more later = record { run = zero; other = a; there = refl; same = eqb-true a.destination z is }
held_by_next runs a z false is more later =
    let rest = later more in
    record { run = suc rest.run; other = rest.other; there = rest.there; same = rest.same }

held_by_one : (runs : List (Option ActiveRun)) (z : ℕ) → list_any (names z) (map destination_held runs) ≡ true → IsHeldBy runs z
held_by_one [] z held = absurd cc
held_by_one (None ∷ runs) z held =
    let rest = held_by_one runs z held in
    record { run = suc rest.run; other = rest.other; there = rest.there; same = rest.same }
held_by_one (Some a ∷ runs) z held = held_by_next runs a z (a.destination == z) refl held (λ more. held_by_one runs z more)

module _ {D : Type 0} {domain : Ghosts D} (ns : ZonedNamespace) (slots : List (Option (LoadedProgram D domain))) (kept : List (Option KeptRun)) where
  pub none_going : AreGoing ns slots kept (replicate RUNS None) 0
  none_going = record {
    number = length-replicate {A = Option ActiveRun} RUNS None;
    each = λ k less. absurd (omega (arith, less));
    first = λ k a at. absurd (none_known RUNS k a at);
    going = λ k a at. absurd (none_known RUNS k a at);
    apart = λ j k a b at_j at_k same. absurd (none_known RUNS j a at_j);
  }

  module _ (runs : List (Option ActiveRun)) (n : ℕ) (are : AreGoing ns slots kept runs n) (less : n < RUNS) where
    -- one more goes on
    pub one_more_goes : (place : Option ActiveRun) → IsPlaceAgain ns slots runs (get_or kept n None) place → AreGoing ns slots kept (set runs n place) (n + 1)
    one_more_goes place is = record {
      number = length-set runs n place ∙ are.number;
      each = λ k within. elim (cases_lt k n) [
        | inl before ↦ ap running (get_or-set_other runs n k place None (λ same. absurd (omega (arith, same, before)))) ∙ are.each k before
        | inr behind ↦
            let at : k ≡ n = omega (arith, within, behind) in
            ap (λ (j : ℕ). running (get_or (set runs n place) j None)) at
            ∙ ap running (get_or-set_same runs n place None (omega (arith, are.number, less)))
            ∙ is.seen
            ∙ ap (λ (j : ℕ). place_told (get_or kept j None)) (sym at)
      ];
      first = λ k a at. elim (set_known runs n k place a at) [
        | inl here ↦ omega (arith, here.0)
        | inr other ↦ let before = are.first k a other.1 in omega (arith, before)
      ];
      going = λ k a at. elim (set_known runs n k place a at) [
        | inl here ↦ (own a here.1).again
        | inr other ↦ are.going k a other.1
      ];
      apart = λ j k a b at_j at_k same. elim (set_known runs n j place a at_j) [
        | inl first ↦ elim (set_known runs n k place b at_k) [
          | inl second ↦ first.0 ∙ sym second.0
          | inr second ↦ absurd (apart_from k a b (own a first.1) second.1 (sym same))
        ]
        | inr first ↦ elim (set_known runs n k place b at_k) [
          | inl second ↦ absurd (apart_from j b a (own b second.1) first.1 same)
          | inr second ↦ are.apart j k a b first.1 second.1 same
        ]
      ];
    }
      where
        own : (a : ActiveRun) → place ≡ Some a → GoesOnBeside ns slots runs a
        own a at = subst (λ (o : Option ActiveRun). IfSome o (GoesOnBeside ns slots runs)) at is.goes

        apart_from : (j : ℕ) (a b : ActiveRun) → GoesOnBeside ns slots runs a → get_or runs j None ≡ Some b → b.destination ≡ a.destination → ⊥
        apart_from j a b beside at same =
            let held : list_any (names a.destination) (map destination_held runs) ≡ true =
            runs_name_zones destination_held a.destination runs j b at (ap (λ (z : ℕ). Some z) same) in
            let free = beside.alone in
            cc (held, free)

    -- or it doesn't
    pub one_is_stuck : IsStuck ns slots runs (get_or kept n None) → AreStuck ns slots kept
    one_is_stuck stuck can = by (place_told (get_or kept n None)) refl stuck
      where
        told_at : (k : ℕ) → get_or (map place_told kept) k None ≡ place_told (get_or kept k None)
        told_at k = get_or-map place_told kept k None

        by : (o : Option Active) → place_told (get_or kept n None) ≡ o
            → IsSomeAnd o (λ a. (CanGoOn ns (map loaded_slot slots) a → ⊥) ⊎ IsBesideOne ns slots runs a) → ⊥
        by None at none = none
        by (Some a) at (inl cannot) = cannot (can.going n a (told_at n ∙ at))
        by (Some a) at (inr beside) =
            let j = beside.run in
            let b = active_of beside.other in
            let before = are.first j beside.other beside.there in
            let there : get_or (map place_told kept) j None ≡ Some b = told_at j ∙ sym (are.each j before) ∙ ap running beside.there in
            let fits = (are.going j beside.other beside.there).running.fits in
            let same = can.apart j n b a there (told_at n ∙ at) (sym fits.destination ∙ beside.same) in
            omega (arith, before, same)

module _ {D : Type 0} {domain : Ghosts D} where
  -- a run whose zone is that of one of these
  pub beside_one : (ns : ZonedNamespace) (slots : List (Option (LoadedProgram D domain))) (runs : List (Option ActiveRun)) (a : Active) (z : ℕ) → z ≡ destination_zone ns a.command
      → is_destination (held_by runs) z ≡ true → IsBesideOne ns slots runs a
  beside_one ns slots runs a z is held =
      let one = held_by_one runs z held in
      record { run = one.run; other = one.other; there = one.there; same = one.same ∙ is }
