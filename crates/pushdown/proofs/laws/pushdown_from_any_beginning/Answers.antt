use Rattle.device_meaning.specs.Judging.{judge_by}
use Rattle.pushdown.proofs.Pushdown.{from_any_beginning}
use Rattle.pushdown.proofs.laws.pushdown_from_any_beginning.Goals as goal

pub returns : goal.returns
returns g c = from_any_beginning (judge_by g.D.Domain.operations) c.domains_judge_soundly.ensures
