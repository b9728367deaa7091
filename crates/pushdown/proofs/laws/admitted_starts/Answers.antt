use Rattle.device_meaning.specs.Judging.{judge_by}
use Rattle.pushdown.proofs.Pushdown.{admitted_starts}
use Rattle.pushdown.proofs.laws.admitted_starts.Goals as goal

pub returns : goal.returns
returns g c = admitted_starts (judge_by g.D.Domain.operations)
