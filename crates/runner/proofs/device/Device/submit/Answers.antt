use Rattle.std.proofs.Common.{subst}
use Rattle.device_meaning.specs.Judging.{judge_by}
use Rattle.device_meaning.specs.State.{State}
use Rattle.runner.specs.Taken.{HasTakenBy}
use Rattle.runner.specs.steps.Answered.{with_data}
use Rattle.runner.proofs.Happened.{submission_taken, taken_reached}
use Rattle.runner.proofs.device.Device.submit.Goals as goal

pub invariant_of-self : goal.invariant_of-self
invariant_of-self g c =
    let made = c.new-submission in
    taken_reached (judge_by g.D.Domain.operations) c.args.queue c.args.entry.now c.args.input.now made.result c.self.inside.state c.submit.new.state
    (with_data c.submit.result c.submit.new.output) made.ensures.small
    c.self.invariant made.ensures.bytes made.ensures.queue made.ensures.entry made.ensures.input c.submit.ensures.submitted

pub returns-clause-reached : goal.returns-clause-reached
returns-clause-reached g c =
    let made = c.new-submission in
    taken_reached (judge_by g.D.Domain.operations) c.args.queue c.args.entry.now c.args.input.now made.result c.self.inside.state c.submit.new.state
    (with_data c.submit.result c.submit.new.output) made.ensures.small
    c.self.invariant made.ensures.bytes made.ensures.queue made.ensures.entry made.ensures.input c.submit.ensures.submitted

pub returns-clause-submitted : goal.returns-clause-submitted
returns-clause-submitted g c =
    let made = c.new-submission in
    let new = c.submit.new.state in
    let reply = with_data c.submit.result c.submit.new.output in
    let taken = submission_taken (judge_by g.D.Domain.operations) c.args.queue c.args.entry.now c.args.input.now made.result c.self.inside.state new reply
    made.ensures.small made.ensures.queue made.ensures.entry made.ensures.input c.submit.ensures.submitted in
    subst (λ (s : State). HasTakenBy (judge_by g.D.Domain.operations) c.args.queue c.args.entry.now c.args.input.now s new reply) c.self.view_is taken
