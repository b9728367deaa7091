use Rattle.device_meaning.specs.Judging.{judge_by}
use Rattle.device_meaning.proofs.Beginnings.{left_is_within_need}
use Rattle.device_meaning.proofs.laws.left_is_within_need.Goals as goal

pub returns : goal.returns
returns g c = left_is_within_need (judge_by g.D.Domain.operations) c.domains_judge_soundly.ensures
