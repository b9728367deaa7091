-- No two active runs append to one zone.
use Rattle.std.proofs.Common.{◌≡◌, ℕ, Bool, true, false, List, set, map, get_or, Option, Some, None, refl, ap, sym, subst, ◌∙◌, inl, inr}
use Rattle.std.specs.Prelude.{not, is_some}
use Rattle.std.specs.List.{list_any}
use Rattle.std.proofs.lemmas.Bool.{not-true}
use Rattle.zone_state.specs.declared.status.TheConstants.Status.{ZONE_HELD}
use Rattle.common_definitions.proofs.Proved.{demanded, passed}
use Rattle.zone_resources.specs.Holds.{is_destination, names}
use Rattle.nvme_entry.specs.declared.command.RunCommand.{RunCommand}
use Rattle.device_meaning.specs.Judging.{Judge}
use Rattle.accepted_programs.proofs.Proved.{set_known}
use Rattle.zone_resources.proofs.Proved.{runs_name_zones}
use Rattle.device_meaning.specs.Admission.{admission_checks, destination_zone}
use Rattle.device_meaning.specs.EventReplies.{Submission}
use Rattle.device_meaning.specs.Happenings.{admitted_place, happens, place_left, turned, why_not_run}
use Rattle.device_meaning.specs.Outcome.{Ending, Turn}
use Rattle.device_meaning.specs.State.{Place, State, destination_of, free_place, holds_at, loaded_at}
use Rattle.device_events.specs.ToldEvents.{ToldEvent}
use Rattle.device_meaning.proofs.Changes.{after_event, after_turn}

-- no two of these places have one destination
pub record AreApart (places : List (Option Place)) : Type 0 where
  pub apart : (j k : ℕ) (p q : Place) → get_or places j None ≡ Some p → get_or places k None ≡ Some q
      → p.destination ≡ q.destination → j ≡ k

-- ---- the zone that an active run appends to is held

-- the destination of an active run is among those that the places name
pub held_at : (places : List (Option Place)) (run : ℕ) (place : Place) → get_or places run None ≡ Some place
    → list_any (names place.destination) (map destination_of places) ≡ true
held_at places run place at = runs_name_zones destination_of place.destination places run place at refl

-- ---- places of which each is empty, or has the slot and the destination that it had

pub record AreOlder (before after : List (Option Place)) : Type 0 where
  pub was : (j : ℕ) (p : Place) → get_or after j None ≡ Some p
      → (o : Place) × (get_or before j None ≡ Some o) × (o.destination ≡ p.destination) × (o.slot ≡ p.slot)

older_apart : (before after : List (Option Place)) → AreApart before → AreOlder before after → AreApart after
older_apart before after h older = record {
  apart = λ j k p q at_j at_k same.
      let old_j = older.was j p at_j in
      let old_k = older.was k q at_k in
      h.apart j k old_j.0 old_k.0 old_j.1 old_k.1 (old_j.2 ∙ same ∙ sym old_k.2);
}

as_before : (places : List (Option Place)) → AreOlder places places
as_before places = record { was = λ j p at. (p, at, refl, refl) }

left_was : (place : Place) (later : List Turn) (ending : Option Ending) (p : Place) → place_left place later ending ≡ Some p
    → record place { turns = later } ≡ p
left_was place later None p e = cc
left_was place later (Some ending) p e = cc

left_older : (places : List (Option Place)) (run : ℕ) (place : Place) (later : List Turn) (ending : Option Ending)
    → get_or places run None ≡ Some place → AreOlder places (set places run (place_left place later ending))
left_older places run place later ending at = record {
  was = λ j p at_j. elim (set_known places run j (place_left place later ending) p at_j) [
    | inl is ↦
        let same = left_was place later ending p is.1 in
        (place, ap (λ (n : ℕ). get_or places n None) is.0 ∙ at, ap (λ (x : Place). x.destination) same, ap (λ (x : Place). x.slot) same)
    | inr other ↦ (p, other.1, refl, refl)
  ];
}

-- ---- a run that is admitted

-- the destination of an admitted run is no other run's
admitted_free : (sub : Submission) (s : State) (command : RunCommand) → why_not_run sub s command ≡ None
    → is_destination (holds_at s) (destination_zone s.namespace command) ≡ false
admitted_free sub s command none =
    let holds = holds_at s in
    let z = destination_zone s.namespace command in
    let checks = admission_checks s.namespace holds (is_some (free_place s)) (loaded_at s command.slot) command sub.input in
    not-true (is_destination holds z) (demanded (not (is_destination holds z)) ZONE_HELD (passed checks 10 none))

-- a run to a zone that no other has
module _ (places : List (Option Place)) (run : ℕ) (new : Place) (h : AreApart places)
    (free : list_any (names new.destination) (map destination_of places) ≡ false) where
  no_other : (k : ℕ) (p q : Place) → Some new ≡ Some p → get_or places k None ≡ Some q → p.destination ≡ q.destination → ⊥
  no_other k p q here at same =
      let is : new ≡ p = cc here in
      let to : q.destination ≡ new.destination = sym (ap (λ (x : Place). x.destination) is ∙ same) in
      let held : list_any (names new.destination) (map destination_of places) ≡ true =
      subst (λ (z : ℕ). list_any (names z) (map destination_of places) ≡ true) to (held_at places k q at) in
      cc

  placed_apart : AreApart (set places run (Some new))
  placed_apart = record {
    apart = λ j k p q at_j at_k same. elim (set_known places run j (Some new) p at_j) [
      | inl first ↦ elim (set_known places run k (Some new) q at_k) [
        | inl second ↦ first.0 ∙ sym second.0
        | inr second ↦ absurd (no_other k p q first.1 second.1 same)
      ]
      | inr first ↦ elim (set_known places run k (Some new) q at_k) [
        | inl second ↦ absurd (no_other j q p second.1 first.1 (sym same))
        | inr second ↦ h.apart j k p q first.1 second.1 same
      ]
    ];
  }

-- ---- events

-- a run that starts
pub started_apart : (sub : Submission) (s : State) (command : RunCommand) (run : ℕ) → why_not_run sub s command ≡ None
    → AreApart s.places → AreApart (set s.places run (Some (admitted_place sub s command)))
started_apart sub s command run passed h = placed_apart s.places run (admitted_place sub s command) h (admitted_free sub s command passed)

-- a turn
pub left_apart : (places : List (Option Place)) (run : ℕ) (place : Place) (later : List Turn) (ending : Option Ending)
    → get_or places run None ≡ Some place → AreApart places → AreApart (set places run (place_left place later ending))
left_apart places run place later ending at h =
    older_apart places (set places run (place_left place later ending)) h (left_older places run place later ending at)

-- after a turn each place is empty, or has the slot and the destination that it had
pub turned_older : (s : State) (run : ℕ) → AreOlder s.places (turned s run).state.places
turned_older s run =
    after_turn (λ (t : State). AreOlder s.places t.places) s run (as_before s.places)
    (λ place turn later at is. left_older s.places run place later turn.ending at)

-- after a turn no two places have one destination, where no two had before
pub turned_apart : (s : State) (run : ℕ) → AreApart s.places → AreApart (turned s run).state.places
turned_apart s run h = older_apart s.places (turned s run).state.places h (turned_older s run)

module _ (judge : Judge) where
  -- after an event no two places have one destination, where no two had before
  pub event_apart : (s : State) (starved : Bool) (e : ToldEvent) → AreApart s.places → AreApart (happens judge s starved e).state.places
  event_apart s starved e h = after_event judge (λ (t : State). AreApart t.places) s starved e (record {
    same = h;
    step = λ step same is. h;
    load = λ sub load t are takes. h;
    start = λ sub command run passed free some. started_apart sub s command run passed h;
    turn = λ run place turn later is at first. left_apart s.places run place later turn.ending at h;
  })
