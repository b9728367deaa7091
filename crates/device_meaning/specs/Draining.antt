-- Turns of the lowest active run, until no run is left (profile).
use Rattle.std.specs.Prelude.{ℕ, ◌≡◌, ◌≤◌, ◌-◌, List, [], ◌∷◌, length, position, take, is_some, Option, Some, None}
use Rattle.std.specs.List.{fold, sum_by}
use Rattle.std.specs.Option.{option_map_or}
use Rattle.device_events.specs.Replies.{ReplyWithData}
use Rattle.device_meaning.specs.Happenings.{turned}
use Rattle.device_meaning.specs.State.{Place, State}

-- the lowest run number that an active run has
abbrev pub lowest_run : State → Option ℕ
lowest_run s = position is_some s.places

-- the replies to turns of these runs, one after another
abbrev pub replies_to_turns : List ℕ → State → List ReplyWithData
replies_to_turns [] s = []
replies_to_turns (run ∷ runs) s = (turned s run).reply ∷ replies_to_turns runs (turned s run).state

-- the state after turns of these runs
abbrev pub state_after_turns : List ℕ → State → State
state_after_turns runs s = fold (λ before run. (turned before run).state) s runs

-- each turn is of the lowest active run of then
abbrev pub AreLowest : List ℕ → State → Type 0
AreLowest [] s = Unit {0}
AreLowest (run ∷ runs) s = (lowest_run s ≡ Some run) × AreLowest runs (turned s run).state

-- how many turns are left of the run at a place
abbrev pub turns_left_at : Option Place → ℕ
turns_left_at place = option_map_or (λ p. length p.turns) place 0

-- the turns that are left of all runs
abbrev pub turns_left : List (Option Place) → ℕ
turns_left places = sum_by turns_left_at places

-- turns of the lowest active run, after which no run is left; no more than were left
pub record Drains (s : State) (runs : List ℕ) : Type 0 where
  pub lowest : AreLowest runs s
  pub none_left : lowest_run (state_after_turns runs s) ≡ None
  pub few : length runs ≤ turns_left s.places

-- what a device does that is drained; `took` says of its replies that they were taken
pub record HasDrained (old new : State) (took : List ReplyWithData → Type 0) : Type 0 where
  pub runs : List ℕ
  pub drains : Drains old runs
  pub state : new ≡ state_after_turns runs old
  pub replies : took (replies_to_turns runs old)

-- so many turns are done, each of the lowest active run of then, and the reply to the last of them was
-- refused; those before it were taken
pub record HasStoppedDraining (old new : State) (took : List ReplyWithData → Type 0) (done : ℕ) : Type 0 where
  pub runs : List ℕ
  pub lowest : AreLowest runs old
  pub some : 1 ≤ done
  pub given : length runs ≡ done
  pub few : done ≤ turns_left old.places
  pub state : new ≡ state_after_turns runs old
  pub replies : took (replies_to_turns (take (done - 1) runs) old)
