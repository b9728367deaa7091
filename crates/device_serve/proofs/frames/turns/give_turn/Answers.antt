use Rattle.std.proofs.Common.{◌≡◌, ◌++◌, take, sym, ◌∙◌, rules}
use Rattle.device_events.specs.Replies.{ReplyWithData, data_length}
use Rattle.event_frames.specs.Frames.{reply_frame}
use Rattle.device_serve.proofs.FrameTurns.{gave_none, gave_one}
use Rattle.device_serve.proofs.frames.turns.give_turn.Goals as goal

pub returns-then-is_idle-clause-gave : goal.returns-then-is_idle-clause-gave
returns-then-is_idle-clause-gave g c =
    gave_none c.args.run c.args.kept.now.device.value c.apply.new.self.device.value _ c.args.answer.now.items c.in_ok-reply.ensures.happened
    (sym c.is_idle.ensures ∙ c.if-is_idle.true)

pub returns-clause-gave : goal.returns-clause-gave
returns-clause-gave g c =
    let r : ReplyWithData = record { reply = c.in_ok-reply.reply; bytes = take (data_length c.in_ok-reply.reply) c.apply.new.output } in
    let added : c.add_frame.new.answer.items ≡ c.args.answer.now.items ++ reply_frame r = search rules in
    gave_one c.args.run c.args.kept.now.device.value c.apply.new.self.device.value r c.args.answer.now.items c.add_frame.new.answer.items
    c.in_ok-reply.ensures.happened (sym c.is_idle.ensures ∙ c.if-is_idle.false) added
