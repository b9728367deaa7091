use Rattle.std.proofs.Common.{false, Ok, ap, ◌∙◌}
use Rattle.nvme_entry.specs.declared.command.Command.{Command}
use Rattle.device_meaning.specs.Judging.{judge_by}
use Rattle.device_meaning.specs.EventReplies.{Happening}
use Rattle.device_meaning.specs.Happenings.{submitted}
use Rattle.runner.specs.steps.Answered.{as_submission}
use Rattle.runner.proofs.Replies.{replied, replied_alone}
use Rattle.runner.proofs.submission.perform.Goals as goal

pub returns-in-Standard-clause-submitted : goal.returns-in-Standard-clause-submitted
returns-in-Standard-clause-submitted g c =
    let a = c.args in
    let told = a.submission.now in
    let sub = as_submission told in
    let old = a.state.now in
    let asking : Command → Happening = λ x. submitted (judge_by g.D.Domain.operations) false sub old (Ok x) in
    replied (judge_by g.D.Domain.operations) told (Ok a.command) old c.execute.new.state false c.execute.result c.reply_with.result c.execute.new.output
    (ap asking c.in-Standard.is ∙ c.execute.ensures.executed told.queue told.entry.now)
    c.reply_with.ensures c.execute.ensures.within

pub returns-in-Load-clause-submitted : goal.returns-in-Load-clause-submitted
returns-in-Load-clause-submitted g c =
    let a = c.args in
    let told = a.submission.now in
    let sub = as_submission told in
    let old = a.state.now in
    let loaded = c.load.ensures.loaded in
    let asking : Command → Happening = λ x. submitted (judge_by g.D.Domain.operations) loaded.starved sub old (Ok x) in
    replied_alone (judge_by g.D.Domain.operations) told (Ok a.command) old c.load.new.state loaded.starved c.load.result c.reply_with-in-Load.result a.output.now
    (ap asking c.in-Load.is ∙ loaded.happening told.queue told.entry.now)
    c.reply_with-in-Load.ensures c.load.ensures.no_data

pub returns-in-Result-clause-submitted : goal.returns-in-Result-clause-submitted
returns-in-Result-clause-submitted g c =
    let a = c.args in
    let told = a.submission.now in
    let sub = as_submission told in
    let old = a.state.now in
    let asking : Command → Happening = λ x. submitted (judge_by g.D.Domain.operations) false sub old (Ok x) in
    replied (judge_by g.D.Domain.operations) told (Ok a.command) old old false c.give_result.result c.reply_with-in-Result.result c.give_result.new.output
    (ap asking c.in-Result.is ∙ c.give_result.ensures.gives told.queue told.entry.now)
    c.reply_with-in-Result.ensures c.give_result.ensures.within
