use Rattle.device_meaning.specs.Judging.{judge_by}
use Rattle.device_meaning.proofs.Reached.{beginning_is_reached}
use Rattle.device_meaning.proofs.laws.beginning_is_reached.Goals as goal

pub returns : goal.returns
returns g c = beginning_is_reached (judge_by g.D.Domain.operations)
