-- An entry that was taken with the data beside it where that lies.
use Rattle.std.specs.Prelude.{ℕ, ◌≡◌, List, Vec}
use Rattle.std.specs.declared.alloc.Global.{Global}
use Rattle.device_events.specs.Replies.{ReplyWithData}
use Rattle.device_events.specs.declared.event.Event.TheVariants as event
use Rattle.device_meaning.specs.Events.{HasHappened}
use Rattle.device_meaning.specs.Judging.{Judge, interval_judge}
use Rattle.device_meaning.specs.State.{State}

-- an event happened that is just the submission of this entry to this queue, with this data beside it
pub record HasTakenBy (judge : Judge) (queue : ℕ) (entry input : List ℕ) (old new : State) (reply : ReplyWithData) : Type 0 where
  -- the data as an event has it
  pub carried : Vec ℕ Global
  pub bytes : carried.items ≡ input
  pub happened : HasHappened judge (event.Submit queue entry carried) old new reply

-- by the judge of the device
abbrev pub HasTaken : ℕ → List ℕ → List ℕ → State → State → ReplyWithData → Type 0
HasTaken = HasTakenBy interval_judge
