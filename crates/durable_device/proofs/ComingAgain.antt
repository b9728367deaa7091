-- Events that may have changed a device come to the same again.
use Rattle.std.proofs.Common.{◌≡◌, false, ◌∙◌, ap, sym}
use Rattle.device_events.specs.Replies.{ReplyWithData}
use Rattle.device_events.specs.ToldEvents.{ToldEvent, told_of}
use Rattle.device_meaning.specs.Happenings.{happens}
use Rattle.device_meaning.specs.Judging.{interval_judge}
use Rattle.durable_device.specs.Again.{ChangesComeAgain}
use Rattle.durable_device.specs.Changing.{may_change}
use Rattle.durable_device.specs.Machine.{state_by}
use Rattle.durable_device.proofs.Again.{comes_again}
use Rattle.durable_device.proofs.Frames.{frames_tell_events}

pub changes_come_again : ChangesComeAgain
changes_come_again event old new reply fits happened =
    let e : ToldEvent = told_of event in
    let again = comes_again old happened.starved e fits in
    let test : may_change e reply.reply ≡ may_change e (happens interval_judge old happened.starved e).reply.reply =
    ap (λ (r : ReplyWithData). may_change e r.reply) happened.replied in
    record {
      again = λ may frame is. happened.state ∙ again.again (sym test ∙ may) ∙ ap (state_by old false) (sym (frames_tell_events.told e frame is));
      idle = λ may. happened.state ∙ again.idle (sym test ∙ may);
    }
