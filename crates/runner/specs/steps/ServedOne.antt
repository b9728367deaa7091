-- One event that a device did, with what became of the reply.
use Rattle.std.specs.Prelude.{List, [], ◌∷◌, OnErr, OnOk, Result}
use Rattle.device_meaning.specs.Judging.{Judge}
use Rattle.device_events.specs.Replies.{ReplyWithData}
use Rattle.device_events.specs.declared.event.Event.{Event}
use Rattle.device_events.specs.declared.out.NotTaken.{NotTaken}
use Rattle.device_meaning.specs.Events.{HasHappened}
use Rattle.device_meaning.specs.State.{State}

-- the event led from one state to the other; `took` says of replies that they were taken, which are the reply
-- to it, or none where that was refused
pub record HasServedOne (judge : Judge) (e : Event) (old new : State) (took : List ReplyWithData → Type 0)
    (result : Result Unit NotTaken) : Type 0 where
  pub reply : ReplyWithData
  pub happened : HasHappened judge e old new reply
  pub taken : OnOk result (took (reply ∷ []))
  pub refused : OnErr result (took [])
