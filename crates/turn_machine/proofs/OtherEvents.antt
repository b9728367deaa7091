-- What any other event of a machine comes to is what it comes to in the state that corresponds.
use Rattle.std.proofs.Common.{◌≡◌, ℕ, ◌+◌, ◌%◌, ◌/◌, ◌≤◌, List, set, length, Option, Some, None, refl, ap, sym, subst, ◌∙◌, arith, inl, inr}
use Rattle.std.specs.Prelude.{is_some, nat_le}
use Rattle.std.proofs.lemmas.Bool.{leb-true}
use Rattle.std.proofs.lemmas.List.{map-set}
use Rattle.zone_state.specs.declared.status.Status.{Status}
use Rattle.zone_state.specs.declared.status.TheConstants.Status.{SOURCE_NOT_WRITTEN, ZONE_BOUNDARY_ERROR}
use Rattle.common_definitions.proofs.Proved.{demanded, passed}
use Rattle.nvme_entry.specs.declared.command.RunCommand.{RunCommand}
use Rattle.accepted_programs.proofs.Proved.{set_known}
use Rattle.image_store.specs.Namespace.{ZonedNamespace, zone_at}
use Rattle.device_meaning.specs.Admission.{Loaded, admission_checks}
use Rattle.device_meaning.specs.EventReplies.{Happening, Submission}
use Rattle.device_meaning.specs.Happenings.{start_by, starting, why_not_run}
use Rattle.device_meaning.specs.State.{Place, State, free_place, holds_at, loaded_at}
use Rattle.device_meaning.specs.View.{begun, seen, view_of}
use Rattle.device_meaning.proofs.Proved.{seen_at_admission}
use Rattle.turn_machine.specs.Machine.{Machine, leaving_runs, start_now, starting_now, without_turns}
use Rattle.turn_machine.proofs.TurnsTaken.{Follows, KeepsAll, all_stay, places_stay}
use Rattle.turn_machine.proofs.UnderWay.{AreUnderWay, IsUnderWay}
use Rattle.turn_machine.proofs.WithoutTurns.{IsSame, free_same, viewed, why_same}

module _ (m : Machine) (under : AreUnderWay m) where
  -- ---- what leaves the runs

  -- what comes to the same, and keeps what each run needs
  pub leaving_follows : (h g : Happening) → IsSame m h g → KeepsAll m h.state.namespace h.state.slots → Follows h (leaving_runs m g)
  leaving_follows h g same keeps =
      let now = h.state.namespace in
      let slots = h.state.slots in
      let state : List (Option Place) → State = λ places. record { namespace = now; slots = slots; places = places } in
      record {
        reply = same.reply;
        state =
            ap state (same.places ∙ sym (places_stay m under now slots keeps))
            ∙ ap (λ (ns : ZonedNamespace). view_of ns slots m.runs) same.namespace
            ∙ ap (λ (loaded : List (Option Loaded)). view_of g.state.namespace loaded m.runs) same.slots;
        under_way = λ run a at. subst (λ (ns : ZonedNamespace). IsUnderWay ns a) same.namespace (all_stay m under now slots keeps run a at);
      }

  -- ---- a Run

  -- a run that is admitted is under way
  admitted_under_way : (sub : Submission) (command : RunCommand) → why_not_run sub (viewed m) command ≡ None → 1 ≤ command.blocks
      → IsUnderWay m.namespace (begun sub command)
  admitted_under_way sub command none some =
      let s = viewed m in
      let blocks = (zone_at m.namespace (command.lba / m.namespace.size)).blocks in
      let end = command.lba % m.namespace.size + command.blocks in
      let checks = admission_checks m.namespace (holds_at s) (is_some (free_place s)) (loaded_at s command.slot) command sub.input in
      record {
        left = omega (arith, some);
        inside = leb-true end m.namespace.size (demanded (nat_le end m.namespace.size) ZONE_BOUNDARY_ERROR (passed checks 7 none));
        written = leb-true end (length blocks) (demanded (nat_le end (length blocks)) SOURCE_NOT_WRITTEN (passed checks 9 none));
      }

  module _ (sub : Submission) (command : RunCommand) (some : 1 ≤ command.blocks) where
    started_under_way : (run : ℕ) → why_not_run sub (viewed m) command ≡ None
        → AreUnderWay (record m { runs = set m.runs run (Some (begun sub command)) })
    started_under_way run none other a here = elim (set_known m.runs run other (Some (begun sub command)) a here) [
      | inl is ↦
          let same : begun sub command ≡ a = cc is.1 in
          subst (IsUnderWay m.namespace) same (admitted_under_way sub command none some)
      | inr is ↦ under other a is.1
    ]

    start_follows : (why : Option Status) (free : Option ℕ) → why_not_run sub (viewed m) command ≡ why
        → Follows (start_by why free sub (viewed m) command) (start_now why free sub m command)
    start_follows (Some status) free is = record { reply = refl; state = refl; under_way = under }
    start_follows None None is = record { reply = refl; state = refl; under_way = under }
    start_follows None (Some run) is =
        let places = (viewed m).places in
        let state : List (Option Place) → State = λ all. record { namespace = m.namespace; slots = m.slots; places = all } in
        record {
          reply = refl;
          state =
              ap (λ (place : Place). state (set places run (Some place))) (sym (seen_at_admission sub (viewed m) command))
              ∙ ap state (sym (map-set (seen m.namespace m.slots) m.runs run (Some (begun sub command))));
          under_way = started_under_way run is;
        }

    pub starting_follows : Follows (starting sub (viewed m) command) (starting_now sub m command)
    starting_follows =
        let h = starting sub (viewed m) command in
        let why = why_not_run sub (viewed m) command in
        subst (λ (asked : Option Status). Follows h (start_now asked (free_place (without_turns m)) sub m command)) (why_same m sub command)
        (subst (λ (free : Option ℕ). Follows h (start_now why free sub m command)) (free_same m)
        (start_follows why (free_place (viewed m)) refl))
