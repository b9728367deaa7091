use Rattle.std.proofs.Common.{ℕ, subst, sym, take}
use Rattle.device_events.specs.Replies.{ReplyWithData}
use Rattle.device_meaning.specs.Events.{HasHappened}
use Rattle.device_meaning.specs.Judging.{interval_judge}
use Rattle.device_serve.proofs.LineDoing.{done_anyway, served_if}
use Rattle.device_serve.proofs.line_events.answer_event.Goals as goal

pub returns-clause-done : goal.returns-clause-done
returns-clause-done g c =
    let old = c.args.kept.now.device.value in
    let new = c.apply_any.new.self.device.value in
    let r : ℕ → ReplyWithData = λ n. record { reply = c.in_ok-reply.reply; bytes = take n c.apply_any.new.output } in
    let happened = subst (λ (n : ℕ). HasHappened interval_judge c.args.event.now old new (r n)) (sym c.data_length.ensures) c.in_ok-reply.ensures.happened in
    served_if c.args.event.now old new (r c.data_length.result) happened c.add.result c.args.answer.now.items c.add.new.answer.items c.add.ensures.added

pub returns-clause-perhaps : goal.returns-clause-perhaps
returns-clause-perhaps g c =
    done_anyway c.args.event.now c.args.kept.now.device.value c.apply_any.new.self.device.value _ c.in_ok-reply.ensures.happened c.add.result
