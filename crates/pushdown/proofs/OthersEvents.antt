-- What events leave of a run that they are no turns of, and what its own turn leaves.
use Rattle.std.proofs.Common.{◌≡◌, ◌≢◌, ℕ, ◌<◌, Bool, true, false, List, length, get_or, Option, Some, None, refl, ap, sym, subst, ◌∙◌, get_or-set_other, get_or-set_same}
use Rattle.std.specs.Prelude.{is_none, position, nat_eq}
use Rattle.std.proofs.lemmas.Bool.{eqb-false}
use Rattle.std.proofs.lemmas.List.Quantifiers.{position-Some}
use Rattle.device_meaning.specs.Judging.{Judge}
use Rattle.zone_resources.proofs.Proved.{there}
use Rattle.device_meaning.specs.EventReplies.{Happening}
use Rattle.pushdown.specs.Laws.{ForeignLeavesTurns, TurnTakesFirst}
use Rattle.device_meaning.specs.Happenings.{admitted_place, happens, place_left, turned}
use Rattle.pushdown.specs.Pushdown.{is_turn_of}
use Rattle.device_meaning.specs.State.{Place, State, place_at}
use Rattle.device_events.specs.ToldEvents.{ToldEvent}
use Rattle.device_events.specs.ToldEvents as told
use Rattle.device_meaning.proofs.Proved.{after_event, after_turn, turned_is}

-- ---- lists of places

-- a free run number is one of a place, which is empty
pub free_within : (places : List (Option Place)) (free : ℕ) → position is_none places ≡ Some free → free < length places
free_within places free at = (position-Some is_none places free None at).0

other_than : (places : List (Option Place)) (free run : ℕ) (place : Place) → position is_none places ≡ Some free
    → get_or places run None ≡ Some place → run ≢ free
other_than places free run place at is same =
    let none = (position-Some is_none places free None at).1 in
    let some : is_none (get_or places run None) ≡ false = ap is_none is in
    let clash : is_none (get_or places run None) ≡ true = subst (λ (n : ℕ). is_none (get_or places n None) ≡ true) (sym same) none in
    cc

-- ---- an event that is no turn of a run leaves its place

pub not_own : (run other : ℕ) (e : ToldEvent) → e ≡ told.Turned other → is_turn_of run e ≡ false → run ≢ other
not_own run other e is foreign =
    let differs : nat_eq other run ≡ false = subst (λ (x : ToldEvent). is_turn_of run x ≡ false) is foreign in
    λ same. eqb-false other run differs (sym same)

-- a turn of another run
pub turned_leaves : (s : State) (other run : ℕ) → run ≢ other → place_at (turned s other).state run ≡ place_at s run
turned_leaves s other run differs =
    after_turn (λ (t : State). place_at t run ≡ place_at s run) s other refl
    (λ p turn later at is. get_or-set_other s.places other run (place_left p later turn.ending) None differs)

module _ (judge : Judge) where
  pub foreign_event : (s : State) (starved : Bool) (e : ToldEvent) (run : ℕ) (place : Place) → is_turn_of run e ≡ false
      → place_at s run ≡ Some place → place_at (happens judge s starved e).state run ≡ Some place
  foreign_event s starved e run place foreign at =
      after_event judge (λ (t : State). place_at t run ≡ Some place) s starved e (record {
        same = at;
        step = λ step same is. at;
        load = λ sub load t are takes. at;
        start = λ sub command first passed free some.
            get_or-set_other s.places first run (Some (admitted_place sub s command)) None (other_than s.places first run place free at) ∙ at;
        turn = λ other p turn later is there first.
            get_or-set_other s.places other run (place_left p later turn.ending) None (not_own run other e is foreign) ∙ at;
      })

  pub foreign_leaves_turns : ForeignLeavesTurns judge
  foreign_leaves_turns s o run place foreign at = foreign_event s o.starved o.event run place foreign at

-- ---- a turn of the run itself

pub turn_takes_first : TurnTakesFirst
turn_takes_first s run place turn later at first =
    let left =
    ap (λ (h : Happening). place_at h.state run) (turned_is s run place turn later at first)
    ∙ get_or-set_same s.places run (place_left place later turn.ending) None (there s.places run place at) in
    record { later_left = λ on. left ∙ ap (place_left place later) on; place_freed = λ ending is. left ∙ ap (place_left place later) is }
