use Rattle.device_meaning.specs.Judging.{judge_by}
use Rattle.command_exec.specs.steps.Tallied.{Watches}
use Rattle.command_exec.proofs.Stopping.{asked_of_all, asked_to_stop}
use Rattle.command_exec.proofs.serving.serve_and_drain.Goals as goal

pub returns-else-stops-clause-done : goal.returns-else-stops-clause-done
returns-else-stops-clause-done g c =
    asked_of_all (judge_by g.D.Domain.operations) c.args.stops c.args.events.now c.args.device.now c.serve_to_end.new.device
    (Watches g.P.Out.took c.args.replies.now c.serve_to_end.new.replies) c.serve_to_end.result c.if-stops.false c.serve_to_end.ensures.done

pub returns-then-stops-clause-done : goal.returns-then-stops-clause-done
returns-then-stops-clause-done g c =
    asked_to_stop (judge_by g.D.Domain.operations) c.args.stops c.args.events.now c.args.device.now c.serve_and_stop.new.device
    (Watches g.P.Out.took c.args.replies.now c.serve_and_stop.new.replies) c.serve_and_stop.result c.if-stops.true c.serve_and_stop.ensures.done
