use Rattle.device_meaning.specs.Judging.{judge_by}
use Rattle.pushdown.proofs.Pending.{pending_is_admitted}
use Rattle.pushdown.proofs.laws.pending_is_admitted.Goals as goal

pub returns : goal.returns
returns g c = pending_is_admitted (judge_by g.D.Domain.operations)
