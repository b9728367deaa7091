-- Turns that end all runs, and what answers them (profile).
use Rattle.std.specs.Prelude.{ℕ, ◌≡◌, ◌≤◌, ◌+◌, List, ◌++◌, flat_map, length, take}
use Rattle.device_events.specs.Replies.{ReplyWithData}
use Rattle.device_meaning.specs.Draining.{AreLowest, HasDrained, replies_to_turns, state_after_turns}
use Rattle.device_meaning.specs.State.{State}

-- where replies are spelled so
module _ (spelled : ReplyWithData → List ℕ) where
  -- the lowest active run was given a turn until no run was left, and after what was answered before come the replies, and nothing else
  abbrev pub EndsRuns : State → State → List ℕ → List ℕ → Type 0
  EndsRuns old new before after = HasDrained old new (λ replies. after ≡ before ++ flat_map spelled replies)

  -- the lowest active run was given some turns; after what was answered before come the replies to all of them, or to all but the last
  pub record EndsSome (old new : State) (before after : List ℕ) : Type 0 where
    pub runs : List ℕ
    pub lowest : AreLowest runs old
    pub state : new ≡ state_after_turns runs old
    pub answered : ℕ
    pub within : answered ≤ length runs
    pub all_but_one : length runs ≤ answered + 1
    pub answers : after ≡ before ++ flat_map spelled (replies_to_turns (take answered runs) old)
