-- Turns of a run that C asks a device in memory for.
use Rattle.std.specs.Prelude.{ℕ, suc, false, ◌≡◌, ◌≤◌, ◌⊎◌, ◌-◌, nat_le, [], ◌∷◌, ◌++◌, replicate, Option, Some, None}
use Rattle.common_definitions.specs.Checks.{demand, first_failed}
use Rattle.device_events.specs.Replies.{without_data}
use Rattle.device_events.specs.declared.reply.Reply.TheVariants as reply
use Rattle.device_meaning.specs.Draining.{replies_to_turns, state_after_turns}
use Rattle.device_meaning.specs.EventReplies.{Happening}
use Rattle.device_meaning.specs.State.{State}
use Rattle.runner.specs.Turns.{has_turns_left, turned_on}
use Rattle.device_library.specs.Asked.{Asked}
use Rattle.device_library.specs.Events.{IsTold, MemoryLent, head_of, reply_number}
use Rattle.device_library.specs.declared.numbers.TheConstants.{NUMBER_TOO_LARGE}

-- what is asked for: a run, and the most turns that it is given; no turn counts as one
pub record TurnsAsked : Type 0 where
  pub run : ℕ
  pub most : ℕ

-- of a call the run is told as a number, and the most turns as a count
abbrev pub turns_of : Asked → TurnsAsked
turns_of asked = record { run = asked.number; most = asked.count }

-- why no turn is given: no run has such a number
abbrev pub why_no_turn : ℕ → Option ℕ
why_no_turn run = first_failed (demand (nat_le run 255) NUMBER_TOO_LARGE ∷ [])

-- what a turn comes to, and up to `most` of them as long as the run has turns left
abbrev pub turns_given : TurnsAsked → State → Happening
turns_given asked device = turned_on (asked.most - 1) device asked.run

-- the turns are given, and the reply to the last of them is told; nothing is put in front of the output
pub record HasTurned (asked : TurnsAsked) (old new : MemoryLent) (answer : ℕ) : Type 0 where
  pub device : new.device ≡ (turns_given asked old.device).state
  pub head : new.reply ≡ head_of (turns_given asked old.device).reply.reply
  pub told : answer ≡ reply_number (turns_given asked old.device).reply.reply
  pub out : new.out ≡ old.out

-- the turns are given, or it is told why not
abbrev pub TurnsUnless : Option ℕ → TurnsAsked → MemoryLent → MemoryLent → ℕ → Type 0
TurnsUnless (Some why) asked old new answer = IsTold why old new answer
TurnsUnless None asked old new answer = HasTurned asked old new answer

abbrev pub DoesTurns : TurnsAsked → MemoryLent → MemoryLent → ℕ → Type 0
DoesTurns asked old new answer = TurnsUnless (why_no_turn asked.run) asked old new answer

-- ---- turns at once are turns one by one (profile)

-- a turn, and so many after it as are given, of at most so many: the replies to all but the last say that the run has turns left, and
-- fewer are given than there may be only where it has none left
pub record AreOneByOne (more run : ℕ) (s : State) : Type 0 where
  pub given : ℕ
  pub within : given ≤ more
  pub state : (turned_on more s run).state ≡ state_after_turns (replicate (suc given) run) s
  pub replies : replies_to_turns (replicate (suc given) run) s ≡ replicate given (without_data (reply.Pending run)) ++ (turned_on more s run).reply ∷ []
  pub all : (given ≡ more) ⊎ (has_turns_left (turned_on more s run).reply.reply ≡ false)

abbrev pub TurnsAreOneByOne : Type 0
TurnsAreOneByOne = (more run : ℕ) (s : State) → AreOneByOne more run s
