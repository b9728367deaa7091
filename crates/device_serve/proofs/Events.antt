-- What the frames of events lead to that are noted.
use Rattle.std.proofs.Common.{◌≡◌, true, false, refl, subst}
use Rattle.event_frames.specs.Frames.{request_frame}
use Rattle.event_frames.specs.Requests.{Fits, ToldRequest, told_event}
use Rattle.device_events.specs.Replies.{ReplyWithData}
use Rattle.device_events.specs.ToldEvents.{told_of}
use Rattle.device_events.specs.declared.event.Event.{Event}
use Rattle.device_events.specs.declared.event.Event.TheVariants as event
use Rattle.device_meaning.specs.Events.{HasHappened}
use Rattle.device_meaning.specs.Judging.{interval_judge}
use Rattle.device_meaning.specs.State.{State}
use Rattle.durable_device.specs.Again.{ChangesComeAgain}
use Rattle.durable_device.specs.Changing.{HasIdentifier, may_change}
use Rattle.durable_device.specs.FrameEvents.{request_of}
use Rattle.durable_device.specs.Machine.{next_state}

same_request : (e : Event) → told_event e ≡ request_of (told_of e)
same_request (event.Submit queue entry input) = refl
same_request (event.Turn run) = refl
same_request (event.Fault zone state) = refl

module _ (again : ChangesComeAgain) (e : Event) (old new : State) (reply : ReplyWithData) (identified : HasIdentifier (told_of e))
    (happened : HasHappened interval_judge e old new reply) where
  -- what may have changed the device its frame leads to once more
  pub changed : Fits (told_event e) → may_change (told_of e) reply.reply ≡ true → new ≡ next_state old false (request_frame (told_event e))
  changed fits may =
      (again e old new reply identified happened).again may (request_frame (told_event e)) (record {
        fits = subst Fits (same_request e) fits;
        spelled = subst (λ (r : ToldRequest). request_frame (told_event e) ≡ request_frame r) (same_request e) refl;
      })

  -- and anything else changed nothing
  pub unchanged : may_change (told_of e) reply.reply ≡ false → new ≡ old
  unchanged may = (again e old new reply identified happened).idle may
