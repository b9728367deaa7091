use Rattle.device_meaning.specs.Judging.{judge_by}
use Rattle.device_meaning.proofs.Drained.{turns_leave_fewer}
use Rattle.device_meaning.proofs.laws.turns_leave_fewer.Goals as goal

pub returns : goal.returns
returns g c = turns_leave_fewer (judge_by g.D.Domain.operations) c.domains_judge_soundly.ensures
