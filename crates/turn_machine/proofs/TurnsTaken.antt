-- What a turn of a machine comes to is what a turn of the state that corresponds comes to.
use Rattle.std.proofs.Common.{◌≡◌, ℕ, zero, suc, false, List, [], ◌∷◌, map, set, get_or, Option, Some, None, refl, ap, sym, subst, ◌∙◌, inl, inr}
use Rattle.std.proofs.Math.ListN.{get_or-map}
use Rattle.std.proofs.lemmas.List.{map-set}
use Rattle.accepted_programs.proofs.Proved.{set_known}
use Rattle.image_store.specs.Namespace.{ZonedNamespace}
use Rattle.device_meaning.specs.Admission.{Loaded}
use Rattle.device_meaning.specs.EventReplies.{Happening}
use Rattle.device_meaning.specs.Happenings.{place_left, slots_left, take_turn, turn_reply, turn_state, turned}
use Rattle.device_meaning.specs.Judging.{Judge}
use Rattle.device_meaning.specs.Laws.{KeepsFor}
use Rattle.device_meaning.specs.Outcome.{Ending, Turn}
use Rattle.device_meaning.specs.State.{Place, State, place_at}
use Rattle.device_meaning.specs.View.{Active, place_of, seen, view_of}
use Rattle.device_meaning.proofs.Proved.{events_keep_for_runs, turned_is}
use Rattle.device_events.specs.ToldEvents as told
use Rattle.turn_machine.specs.Machine.{Answered, Machine, place_without_turns, run_at, run_left, turn_done, turn_now, without_turns}
use Rattle.turn_machine.proofs.NextTurns.{IsNext, gone_on, next_is}
use Rattle.turn_machine.proofs.UnderWay.{AreUnderWay, IsUnderWay, KeepsNeeds, place_stays, stays_under_way}
use Rattle.turn_machine.proofs.WithoutTurns.{viewed}

-- both answer the same; the machine corresponds to the state, and its runs are under way
pub record Follows (h : Happening) (g : Answered) : Type 0 where
  pub reply : h.reply ≡ g.reply
  pub state : h.state ≡ viewed g.machine
  pub under_way : AreUnderWay g.machine

-- ---- the places of runs that keep what they need

module _ {X Y : Type 0} (f g : Option X → Y) (none : f None ≡ g None) where
  same_maps : (xs : List (Option X)) → ((i : ℕ) (x : X) → get_or xs i None ≡ Some x → f (Some x) ≡ g (Some x)) → map f xs ≡ map g xs
  same_maps [] same = refl
  same_maps (None ∷ xs) same =
      ap (λ (y : Y). y ∷ map f xs) none ∙ ap (λ (ys : List Y). g None ∷ ys) (same_maps xs (λ i x at. same (suc i) x at))
  same_maps (Some x ∷ xs) same =
      ap (λ (y : Y). y ∷ map f xs) (same zero x refl)
      ∙ ap (λ (ys : List Y). g (Some x) ∷ ys) (same_maps xs (λ i y at. same (suc i) y at))

-- each run that is under way keeps what it needs
abbrev pub KeepsAll : Machine → ZonedNamespace → List (Option Loaded) → Type 0
KeepsAll m later slots' = (run : ℕ) (a : Active) → run_at m run ≡ Some a → KeepsNeeds m.namespace m.slots later slots' a.command

-- the place of an active run
pub seen_at : (m : Machine) (run : ℕ) (a : Active) → run_at m run ≡ Some a → place_at (viewed m) run ≡ Some (place_of m.namespace m.slots a)
seen_at m run a at = get_or-map (seen m.namespace m.slots) m.runs run None ∙ ap (seen m.namespace m.slots) at

-- a place without a run
pub none_at : (m : Machine) (run : ℕ) → run_at m run ≡ None → place_at (viewed m) run ≡ None
none_at m run at = get_or-map (seen m.namespace m.slots) m.runs run None ∙ ap (seen m.namespace m.slots) at

-- what is kept for the places is kept for the runs
pub needs_kept : (m : Machine) (t : State)
    → ((run : ℕ) (place : Place) → place_at (viewed m) run ≡ Some place → KeepsFor place (viewed m) t) → KeepsAll m t.namespace t.slots
needs_kept m t keeps run a at =
    let kept = keeps run (place_of m.namespace m.slots a) (seen_at m run a at) in
    record { shape_kept = kept.shape_kept; source = kept.source; program = kept.program }

-- their places are as they were, and they are under way
module _ (m : Machine) (under : AreUnderWay m) (later : ZonedNamespace) (slots' : List (Option Loaded))
    (keeps : KeepsAll m later slots') where
  pub places_stay : map (seen later slots') m.runs ≡ map (seen m.namespace m.slots) m.runs
  places_stay =
      same_maps (seen later slots') (seen m.namespace m.slots) refl m.runs
      (λ run a at. ap (λ (place : Place). Some place) (place_stays m.namespace m.slots later slots' a (under run a at) (keeps run a at)))

  pub all_stay : (run : ℕ) (a : Active) → run_at m run ≡ Some a → IsUnderWay later a
  all_stay run a at = stays_under_way m.namespace m.slots later slots' a (under run a at) (keeps run a at)

-- ---- a turn

module _ (m : Machine) (under : AreUnderWay m) (run : ℕ) (a : Active) (at : run_at m run ≡ Some a) where
  abbrev place : Place
  place = place_of m.namespace m.slots a

  abbrev bare : Place
  bare = place_without_turns m.namespace a

  same_reply : (ending : Option Ending) → turn_reply run place ending ≡ turn_reply run bare ending
  same_reply None = refl
  same_reply (Some ending) = refl

  same_slots : (ending : Option Ending) → slots_left (viewed m) place ending ≡ slots_left (without_turns m) bare ending
  same_slots None = refl
  same_slots (Some ending) = refl

  module _ (turn : Turn) (later : List Turn) (next : IsNext m a turn later) where
    abbrev then : State
    then = turn_state (viewed m) run place turn later

    module _ (keeps : KeepsAll m then.namespace then.slots) where
      left_same : (ending : Option Ending) → turn.ending ≡ ending
          → seen then.namespace then.slots (run_left m a ending) ≡ place_left place later ending
      left_same (Some ending) is = refl
      left_same None is =
          let with : List Turn → Option Place = λ turns. Some (record place { turns = turns }) in
          ap (λ (p : Place). Some p)
          (place_stays m.namespace m.slots then.namespace then.slots (gone_on m a) (next.under_way is) (keeps run a at))
          ∙ ap with (next.later_is is)

      left_under_way : (ending : Option Ending) → turn.ending ≡ ending → (b : Active) → run_left m a ending ≡ Some b
          → IsUnderWay then.namespace b
      left_under_way (Some ending) is b e = absurd cc
      left_under_way None is b e =
          let same : gone_on m a ≡ b = cc in
          subst (IsUnderWay then.namespace) same
          (stays_under_way m.namespace m.slots then.namespace then.slots (gone_on m a) (next.under_way is) (keeps run a at))

      places_follow : then.places ≡ map (seen then.namespace then.slots) (set m.runs run (run_left m a turn.ending))
      places_follow =
          ap (λ (places : List (Option Place)). set places run (place_left place later turn.ending))
          (sym (places_stay m under then.namespace then.slots keeps))
          ∙ ap (λ (p : Option Place). set (map (seen then.namespace then.slots) m.runs) run p) (sym (left_same turn.ending refl))
          ∙ sym (map-set (seen then.namespace then.slots) m.runs run (run_left m a turn.ending))

      taken_follows : Follows (take_turn (viewed m) run place (turn ∷ later)) (turn_done m run a turn)
      taken_follows =
          let runs = set m.runs run (run_left m a turn.ending) in
          let state : List (Option Place) → State = λ places. record { namespace = then.namespace; slots = then.slots; places = places } in
          record {
            reply = same_reply turn.ending;
            state =
                ap state places_follow
                ∙ ap (λ (slots : List (Option Loaded)). view_of then.namespace slots runs) (same_slots turn.ending);
            under_way = λ other b here. elim (set_known m.runs run other (run_left m a turn.ending) b here) [
              | inl is ↦ left_under_way turn.ending refl b is.1
              | inr is ↦ all_stay m under then.namespace then.slots keeps other b is.1
            ];
          }

module _ (judge : Judge) (m : Machine) (under : AreUnderWay m) (run : ℕ) (a : Active)
    (at : run_at m run ≡ Some a) where
  -- a turn of an active run
  pub turn_follows : Follows (turned (viewed m) run) (turn_done m run a (turn_now m a))
  turn_follows =
      let s = viewed m in
      let found = next_is m a (under run a at) in
      let later = found.0 in
      let turn = turn_now m a in
      let p = place_of m.namespace m.slots a in
      let is = turned_is s run p turn later (seen_at m run a at) found.1.turns in
      let keeps = needs_kept m (turned s run).state
      (λ other place here. events_keep_for_runs judge s (record { event = told.Turned run; starved = false }) other place here) in
      let kept : KeepsAll m (turn_state s run p turn later).namespace (turn_state s run p turn later).slots =
      subst (λ (h : Happening). KeepsAll m h.state.namespace h.state.slots) is keeps in
      subst (λ (h : Happening). Follows h (turn_done m run a turn)) (sym is)
      (taken_follows m under run a at turn later found.1 kept)
