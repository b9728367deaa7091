use Rattle.device_meaning.proofs.Judging.{judged_is_spelled}
use Rattle.device_meaning.proofs.laws.judged_is_spelled.Goals as goal

pub returns : goal.returns
returns g c = judged_is_spelled g.D.Domain.operations
