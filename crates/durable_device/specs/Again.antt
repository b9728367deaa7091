-- Which events are to be done again, to come to the same device.
use Rattle.std.specs.Prelude.{ℕ, ◌≡◌, Bool, true, false, List}
use Rattle.device_events.specs.Replies.{ReplyWithData}
use Rattle.device_events.specs.ToldEvents.{ToldEvent, told_of}
use Rattle.device_events.specs.declared.event.Event.{Event}
use Rattle.device_meaning.specs.Events.{HasHappened}
use Rattle.device_meaning.specs.Judging.{interval_judge}
use Rattle.device_meaning.specs.State.{State}
use Rattle.durable_device.specs.Changing.{HasIdentifier, may_change}
use Rattle.durable_device.specs.FrameEvents.{IsFrameOf}
use Rattle.durable_device.specs.Machine.{next_state}

-- where an event may have changed a device, its frame leads to the same where memory is given; and else it changed nothing
pub record IsDoneAgain (may : Bool) (e : ToldEvent) (old new : State) : Type 0 where
  pub again : may ≡ true → (frame : List ℕ) → IsFrameOf e frame → new ≡ next_state old false frame
  pub idle : may ≡ false → new ≡ old

-- so it is with each event that happens to a device
abbrev pub ChangesComeAgain : Type 0
ChangesComeAgain =
    (e : Event) (old new : State) (reply : ReplyWithData) → HasIdentifier (told_of e) → HasHappened interval_judge e old new reply
    → IsDoneAgain (may_change (told_of e) reply.reply) (told_of e) old new
