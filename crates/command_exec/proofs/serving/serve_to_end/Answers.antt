use Rattle.device_meaning.specs.Judging.{judge_by}
use Rattle.command_exec.specs.steps.Tallied.{Watches}
use Rattle.command_exec.proofs.Stopping.{goes_on, on_err, serves_and_drains, stops_in_events, stops_in_turns}
use Rattle.command_exec.proofs.Tallies.{watches_joins}
use Rattle.command_exec.proofs.serving.serve_to_end.Goals as goal

pub returns-in_err-serve-clause-stopped : goal.returns-in_err-serve-clause-stopped
returns-in_err-serve-clause-stopped g c =
    on_err c.from_residual.result
    (stops_in_events (judge_by g.D.Domain.operations) c.args.events.now c.args.device.now c.serve.new.self _ c.in_err-serve.field-0.0.done c.in_err-serve.ensures.stopped)

pub returns-clause-goes : goal.returns-clause-goes
returns-clause-goes g c =
    goes_on (judge_by g.D.Domain.operations) (Watches g.P.Out.took) (watches_joins g.P.Out.took g.met.P.Out.joins) c.args.events.now c.args.device.now c.serve.new.self c.drain.new.self
    c.args.replies.now c.serve.new.out c.drain.new.out c.drain.result c.in_ok-serve.ensures.served c.drain.ensures.drained c.drain.ensures.stopped

pub returns-clause-done : goal.returns-clause-done
returns-clause-done g c =
    serves_and_drains (judge_by g.D.Domain.operations) (Watches g.P.Out.took) (watches_joins g.P.Out.took g.met.P.Out.joins) c.args.events.now c.args.device.now c.serve.new.self
    c.drain.new.self c.args.replies.now c.serve.new.out c.drain.new.out c.drain.result c.in_ok-serve.ensures.served c.drain.ensures.drained

pub returns-clause-stopped : goal.returns-clause-stopped
returns-clause-stopped g c =
    stops_in_turns (judge_by g.D.Domain.operations) c.args.events.now c.args.device.now c.serve.new.self c.drain.new.self _ _ c.drain.result
    c.in_ok-serve.ensures.served c.drain.ensures.stopped
