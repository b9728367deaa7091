use Rattle.std.proofs.Common.{rules, ◌≡◌, Some, take, sym}
use Rattle.device_events.specs.Replies.{ReplyWithData, data_length}
use Rattle.durable_device.specs.FrameEvents.{frame_event, told_by}
use Rattle.durable_device.specs.Machine.{HasDone}
use Rattle.durable_device.proofs.Told.{event_done}
use Rattle.durable_device.proofs.frame_device.FrameDeviceMachine.apply.Goals as goal

pub returns-clause-done : goal.returns-clause-done
returns-clause-done c =
    let e = told_by c.in-Some.event in
    let answer = c.perform-reply.result in
    let r : ReplyWithData = record { reply = answer; bytes = take (data_length answer) c.perform-reply.new.output } in
    let tells : frame_event c.args.frame.now ≡ Some e = sym c.in-Some.ensures in
    let done : HasDone e c.args.self.now c.perform-reply.new.device r = search rules in
    event_done c.args.self.now c.perform-reply.new.device c.args.frame.now e r c.may_change-changes.result c.is_want_of_memory-starved.result tells done
    c.may_change-changes.ensures.identifier c.may_change-changes.ensures.told c.is_want_of_memory-starved.ensures
