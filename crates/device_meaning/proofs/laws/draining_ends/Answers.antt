use Rattle.device_meaning.specs.Judging.{judge_by}
use Rattle.device_meaning.proofs.Drained.{draining_ends}
use Rattle.device_meaning.proofs.laws.draining_ends.Goals as goal

pub returns : goal.returns
returns g c = draining_ends (judge_by g.D.Domain.operations) c.domains_judge_soundly.ensures
