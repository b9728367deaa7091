use Rattle.std.proofs.Common.{false, Ok}
use Rattle.nvme_entry.specs.declared.command.Command.TheVariants as commands
use Rattle.device_meaning.specs.Judging.{judge_by}
use Rattle.runner.proofs.Replies.{replied_refusal}
use Rattle.runner.proofs.submission.run.Goals as goal

pub returns-in-Err-clause-submitted : goal.returns-in-Err-clause-submitted
returns-in-Err-clause-submitted g c =
    let a = c.args in
    let told = a.submission.now in
    replied_refusal (judge_by g.D.Domain.operations) told (Ok (commands.Run a.command.now)) a.state.now c.start.new.state false c.refused.result c.reply_with.result c.in-Err.status
    (c.in-Err.ensures.err told.queue told.entry.now) c.reply_with.ensures c.refused.ensures c.in-Err.ensures.kept
