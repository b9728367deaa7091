use Rattle.std.proofs.Common.{ap, ◌∙◌}
use Rattle.question_words.specs.steps.Views.{opens}
use Rattle.question_words.proofs.Nearest.{opens_more}
use Rattle.question_words.proofs.stack.put.Goals as goal

pub returns : goal.returns
returns c = ap opens c.in_ok-push.ensures.items ∙ opens_more c.args.before.now.items c.args.part
