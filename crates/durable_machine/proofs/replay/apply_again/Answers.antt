use Rattle.std.proofs.Common.{rules, ◌≡◌, true}
use Rattle.durable_machine.proofs.Replaying.{none_again, one_more_again, all_again}
use Rattle.durable_machine.proofs.replay.apply_again.Goals as goal

pub loop-event-init : goal.loop-event-init
loop-event-init g c = none_again g.M.Machine.next c.args.bytes.now c.args.machine.now

pub loop-event-preserved : goal.loop-event-preserved
loop-event-preserved g c =
    let changes : c.in_ok-done.done.changes ≡ true = search rules in
    one_more_again g.M.Machine.next c.args.bytes.now c.loop-event.rest.now c.in-Some.event.now c.in-Some.behind.now c.args.machine.now c.loop-event.machine c.apply.new.self c.loop-event.invariant c.in-Some.ensures (c.in_ok-done.ensures.done.again changes)

pub returns-clause-again : goal.returns-clause-again
returns-clause-again g c = λ events sized are. all_again g.M.Machine.next c.args.bytes.now c.loop-event.rest.now c.args.machine.now c.loop-event.machine c.loop-event.invariant c.in_default.ensures events sized are
