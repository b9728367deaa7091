-- Turns of the lowest active run come to an end.
use Rattle.std.proofs.Common.{◌≡◌, ℕ, zero, suc, ◌+◌, ◌≤◌, true, List, [], ◌∷◌, length, set, get_or, Option, Some, None, refl, ap, subst, arith}
use Rattle.std.specs.Prelude.{is_some}
use Rattle.std.proofs.lemmas.List.Quantifiers.{position-Some}
use Rattle.std.proofs.lemmas.List.Sums.{sum_by-set}
use Rattle.device_meaning.specs.Judging.{IsSoundJudge, Judge}
use Rattle.zone_resources.proofs.Proved.{there}
use Rattle.device_meaning.specs.EventReplies.{Happening}
use Rattle.device_meaning.specs.Draining.{Drains, lowest_run, turns_left, turns_left_at}
use Rattle.device_meaning.specs.Laws.{DrainingEnds, TurnsLeaveFewer}
use Rattle.device_meaning.specs.Happenings.{place_left, turned}
use Rattle.device_meaning.specs.Outcome.{Ending, Turn}
use Rattle.device_meaning.specs.State.{Place, State, place_at}
use Rattle.device_meaning.proofs.Changes.{turned_is}
use Rattle.device_meaning.proofs.SoundStates.{reached_fine}
use Rattle.device_meaning.proofs.States.{AppendWhole, IsFine, PlaceIsFine, place_fine, turn_fine}

less_left : (place : Place) (later : List Turn) (ending : Option Ending) → turns_left_at (place_left place later ending) ≤ length later
less_left place later None = omega arith
less_left place later (Some ending) = omega arith

left_after : (places : List (Option Place)) (run : ℕ) (place : Place) (new : Option Place) → get_or places run None ≡ Some place
    → turns_left_at new + 1 ≤ length place.turns → turns_left (set places run new) + 1 ≤ turns_left places
left_after places run place new at less =
    omega (arith, less, ap turns_left_at at, sum_by-set turns_left_at places run new None (there places run place at))

abbrev CanDrain : State → Type 0
CanDrain s = (runs : List ℕ) × Drains s runs

one_more : (s : State) (run : ℕ) → lowest_run s ≡ Some run → turns_left (turned s run).state.places + 1 ≤ turns_left s.places
    → CanDrain (turned s run).state → CanDrain s
one_more s run is less rest =
    (run ∷ rest.0, record { lowest = (is, rest.1.lowest); none_left = rest.1.none_left; few = omega (arith, less, rest.1.few) })

module _ (judge : Judge) (sound : IsSoundJudge judge) (block : ℕ) where
  abbrev Fine : State → Type 0
  Fine s = IsFine judge sound block s

  taken_less : (s : State) (run : ℕ) (place : Place) (turns : List Turn) → place_at s run ≡ Some place → place.turns ≡ turns
      → AppendWhole judge sound block turns → turns_left (turned s run).state.places + 1 ≤ turns_left s.places
  taken_less s run place [] here first are = absurd are.ends
  taken_less s run place (turn ∷ later) here first are =
      let left = place_left place later turn.ending in
      let gone = left_after s.places run place left here (omega (arith, less_left place later turn.ending, ap length first)) in
      let is = ap (λ (h : Happening). turns_left h.state.places) (turned_is s run place turn later here first) in
      omega (arith, gone, is)

  -- a turn of an active run leaves fewer turns
  found_less : (s : State) (run : ℕ) (at : Option Place) → Fine s → place_at s run ≡ at → is_some at ≡ true
      → turns_left (turned s run).state.places + 1 ≤ turns_left s.places
  found_less s run None h here some = cc
  found_less s run (Some place) h here some =
      taken_less s run place place.turns here refl (subst (PlaceIsFine judge sound block) here (place_fine judge sound block s run h))

  by_lowest : (n : ℕ) (s : State) (low : Option ℕ) → Fine s → turns_left s.places ≤ n → lowest_run s ≡ low
      → ((t : State) → Fine t → turns_left t.places + 1 ≤ n → CanDrain t) → CanDrain s
  by_lowest n s None h few is more = ([], record { lowest = tt; none_left = is; few = omega arith })
  by_lowest n s (Some run) h few is more =
      let less = found_less s run (place_at s run) h refl ((position-Some is_some s.places run None is).1) in
      one_more s run is less (more (turned s run).state (turn_fine judge sound block s run h) (omega (arith, less, few)))

  drains : (n : ℕ) (s : State) → Fine s → turns_left s.places ≤ n → CanDrain s
  drains zero s h few = by_lowest zero s (lowest_run s) h few refl (λ t fine none. absurd (omega (arith, none)))
  drains (suc n) s h few = by_lowest (suc n) s (lowest_run s) h few refl (λ t fine less. drains n t fine (omega (arith, less)))

pub draining_ends : (judge : Judge) → IsSoundJudge judge → DrainingEnds judge
draining_ends judge sound s reached =
    drains judge sound reached.first.namespace.block (turns_left s.places) s (reached_fine judge sound s reached) (omega arith)

pub turns_leave_fewer : (judge : Judge) → IsSoundJudge judge → TurnsLeaveFewer judge
turns_leave_fewer judge sound s run reached some =
    found_less judge sound reached.first.namespace.block s run (place_at s run) (reached_fine judge sound s reached) refl some
