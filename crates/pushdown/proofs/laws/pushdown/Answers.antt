use Rattle.device_meaning.specs.Judging.{judge_by}
use Rattle.pushdown.proofs.Pushdown.{pushdown}
use Rattle.pushdown.proofs.laws.pushdown.Goals as goal

pub returns : goal.returns
returns g c = pushdown (judge_by g.D.Domain.operations) c.domains_judge_soundly.ensures
