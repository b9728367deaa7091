use Rattle.std.proofs.Common.{◌≡◌, ◌++◌, take, rules}
use Rattle.device_events.specs.Replies.{ReplyWithData, data_length}
use Rattle.event_frames.specs.Frames.{reply_frame}
use Rattle.device_serve.proofs.FrameTurns.{answered_in, grown_same, not_grown}
use Rattle.device_serve.proofs.frames.requests.answer_event.Goals as goal

pub returns-clause-answered : goal.returns-clause-answered
returns-clause-answered g c =
    let r : ReplyWithData = record { reply = c.in_ok-reply.reply; bytes = take (data_length c.in_ok-reply.reply) c.apply.new.output } in
    let added : c.add_frame.new.answer.items ≡ c.args.answer.now.items ++ reply_frame r = search rules in
    answered_in c.args.event.now c.args.kept.now.device.value c.apply.new.self.device.value r c.args.answer.now.items c.add_frame.new.answer.items
    c.in_ok-reply.ensures.happened added

pub returns-in_err-reply-clause-grown : goal.returns-in_err-reply-clause-grown
returns-in_err-reply-clause-grown g c = not_grown c.args.answer.now.items

pub returns-in_err-add_frame-clause-grown : goal.returns-in_err-add_frame-clause-grown
returns-in_err-add_frame-clause-grown g c =
    grown_same c.args.answer.now.items c.args.answer.now.items c.add_frame.new.answer.items (not_grown c.args.answer.now.items) c.in_err-add_frame.ensures.unanswered
