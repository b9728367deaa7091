use Rattle.std.proofs.Common.{◌≡◌, true, rules}
use Rattle.device_serve.proofs.LineDoing.{begun_turns, one_drained}
use Rattle.device_serve.proofs.line_events.LineDoer.serve_event.Goals as goal

pub returns-clause-done : goal.returns-clause-done
returns-clause-done g c =
    let drains : c.args.self.now.drains ≡ true = search rules in
    one_drained c.args.event.now c.args.kept.now.device.value c.apply.new.kept.device.value c.drain.new.kept.device.value
    c.args.answer.now.items c.apply.new.answer.items c.drain.new.answer.items
    c.in_ok-apply.ensures.done c.args.self.now.drains c.drain.result drains c.drain.ensures.ended

pub returns-clause-stopped : goal.returns-clause-stopped
returns-clause-stopped g c =
    let drains : c.args.self.now.drains ≡ true = search rules in
    begun_turns c.args.event.now c.args.kept.now.device.value c.apply.new.kept.device.value c.drain.new.kept.device.value
    c.args.answer.now.items c.apply.new.answer.items c.drain.new.answer.items
    c.in_ok-apply.ensures.done c.args.self.now.drains c.drain.result drains c.drain.ensures.stopped
