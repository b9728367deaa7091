use Rattle.device_meaning.specs.Judging.{judge_by}
use Rattle.pushdown.proofs.Emitted.{outcome_unpacks}
use Rattle.pushdown.proofs.laws.outcome_unpacks.Goals as goal

pub returns : goal.returns
returns g c = outcome_unpacks (judge_by g.D.Domain.operations) c.domains_judge_soundly.ensures
