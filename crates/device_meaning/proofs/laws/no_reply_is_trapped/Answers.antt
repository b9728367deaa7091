use Rattle.device_meaning.specs.Judging.{judge_by}
use Rattle.device_meaning.proofs.Untrapped.{no_reply_is_trapped}
use Rattle.device_meaning.proofs.laws.no_reply_is_trapped.Goals as goal

pub returns : goal.returns
returns g c = no_reply_is_trapped (judge_by g.D.Domain.operations) c.domains_judge_soundly.ensures
