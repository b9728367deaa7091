use Rattle.device_meaning.specs.Judging.{judge_by}
use Rattle.command_exec.specs.steps.Tallied.{Watches}
use Rattle.command_exec.proofs.Stopping.{goes_on, plainly, stops_in_turns, stops_never}
use Rattle.command_exec.proofs.Tallies.{watches_joins}
use Rattle.command_exec.proofs.serving.serve_and_stop.Goals as goal

pub returns-clause-goes : goal.returns-clause-goes
returns-clause-goes g c =
    let served = plainly (judge_by g.D.Domain.operations) c.args.events.now c.args.device.now c.serve_to_refusal.new.device _ (c.in_ok-serve_to_refusal.ensures.all c.if-branch.false) in
    goes_on (judge_by g.D.Domain.operations) (Watches g.P.Out.took) (watches_joins g.P.Out.took g.met.P.Out.joins) c.args.events.now c.args.device.now c.serve_to_refusal.new.device
    c.drain.new.self c.args.replies.now c.serve_to_refusal.new.replies c.drain.new.out c.drain.result served c.drain.ensures.drained c.drain.ensures.stopped

pub returns-clause-done : goal.returns-clause-done
returns-clause-done g c =
    stops_never (Watches g.P.Out.took) (watches_joins g.P.Out.took g.met.P.Out.joins) (judge_by g.D.Domain.operations) c.args.events.now c.args.device.now
    c.serve_to_refusal.new.device c.drain.new.self c.args.replies.now c.serve_to_refusal.new.replies c.drain.new.out c.drain.result
    (c.in_ok-serve_to_refusal.ensures.all c.if-branch.false) c.drain.ensures.drained

pub returns-clause-stopped : goal.returns-clause-stopped
returns-clause-stopped g c =
    stops_in_turns (judge_by g.D.Domain.operations) c.args.events.now c.args.device.now c.serve_to_refusal.new.device c.drain.new.self _ _ c.drain.result
    (c.in_ok-serve_to_refusal.ensures.all c.if-branch.false) c.drain.ensures.stopped
