use Rattle.std.proofs.Common.{subst}
use Rattle.std.proofs.lemmas.Option.{IfSome_then}
use Rattle.device_events.specs.Replies.{ReplyWithData}
use Rattle.device_meaning.specs.Judging.{judge_by}
use Rattle.device_meaning.specs.State.{State}
use Rattle.runner.specs.Taken.{HasTakenBy}
use Rattle.runner.proofs.Happened.{submission_taken}
use Rattle.runner.proofs.device.Device.read.Goals as goal

pub returns-clause-submitted : goal.returns-clause-submitted
returns-clause-submitted g c =
    let a = c.args in
    let made = c.new-submission in
    let old = c.self.inside.state in
    IfSome_then c.read.result c.read.ensures.submitted (λ given submitted.
    let reply : ReplyWithData = record { reply = given.reply; bytes = given.bytes.now } in
    subst (λ (s : State). HasTakenBy (judge_by g.D.Domain.operations) a.queue a.entry.now a.input.now s s reply) c.self.view_is
    (submission_taken (judge_by g.D.Domain.operations) a.queue a.entry.now a.input.now made.result old old reply
    made.ensures.small made.ensures.queue made.ensures.entry made.ensures.input submitted))
