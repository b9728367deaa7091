-- Turns of runs, in any order.
use Rattle.std.specs.Prelude.{ℕ, ◌≡◌, ◌==◌, List, map, count_by, Some}
use Rattle.std.specs.List.{filter, zip}
use Rattle.device_meaning.specs.Judging.{Judge}
use Rattle.device_meaning.specs.Admission.{SameProgram}
use Rattle.device_events.specs.Replies.{ReplyWithData}
use Rattle.device_meaning.specs.Draining.{replies_to_turns, state_after_turns}
use Rattle.device_meaning.specs.Reached.{IsReached}
use Rattle.device_meaning.specs.State.{Place, State, loaded_at, place_at}

-- each run has as many turns in the one list as in the other
abbrev pub AreSameTurns : List ℕ → List ℕ → Type 0
AreSameTurns first second = (run : ℕ) → count_by (λ r. r == run) first ≡ count_by (λ r. r == run) second

-- of the replies to turns of these runs, those to the turns of one run, in order
abbrev pub own_replies : ℕ → List ℕ → List ReplyWithData → List ReplyWithData
own_replies run runs replies = map (λ x. x.1) (filter (λ x. x.0 == run) (zip runs replies))

-- no two active runs have their program in this slot
abbrev pub IsUnshared : State → ℕ → Type 0
IsUnshared s slot =
    (j k : ℕ) (p q : Place) → place_at s j ≡ Some p → place_at s k ≡ Some q → p.slot ≡ slot → q.slot ≡ slot → j ≡ k

-- Turns of the one list and of the other leave states with the same namespace, the same runs and the same
-- programs, and give each run the same replies, in order. A slot that no two runs share has the same result too,
-- and where no slot is shared the states are the same.
pub record ComeToTheSame (s : State) (first second : List ℕ) : Type 0 where
  pub namespace : (state_after_turns first s).namespace ≡ (state_after_turns second s).namespace
  pub places : (state_after_turns first s).places ≡ (state_after_turns second s).places
  pub programs : (slot : ℕ) → SameProgram (loaded_at (state_after_turns first s) slot) (loaded_at (state_after_turns second s) slot)
  pub results : (slot : ℕ) → IsUnshared s slot → loaded_at (state_after_turns first s) slot ≡ loaded_at (state_after_turns second s) slot
  pub whole : ((slot : ℕ) → IsUnshared s slot) → state_after_turns first s ≡ state_after_turns second s
  pub replies : (run : ℕ) → own_replies run first (replies_to_turns first s) ≡ own_replies run second (replies_to_turns second s)

-- In each state that events leave, turns come to the same in this sense, in any order: all runs there append to
-- different zones.
abbrev pub TurnsInAnyOrder : Judge → Type 0
TurnsInAnyOrder judge = (s : State) → IsReached judge s → (first second : List ℕ) → AreSameTurns first second → ComeToTheSame s first second
