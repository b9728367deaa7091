use Rattle.device_meaning.specs.Judging.{judge_by}
use Rattle.device_meaning.proofs.Reached.{new_is_reached}
use Rattle.device_meaning.proofs.laws.new_is_reached.Goals as goal

pub returns : goal.returns
returns g c = new_is_reached (judge_by g.D.Domain.operations)
