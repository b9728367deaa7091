use Rattle.device_meaning.specs.Judging.{judge_by}
use Rattle.device_meaning.proofs.Reached.{turns_keep_reached}
use Rattle.device_meaning.proofs.laws.turns_keep_reached.Goals as goal

pub returns : goal.returns
returns g c = turns_keep_reached (judge_by g.D.Domain.operations)
