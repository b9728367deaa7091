use Rattle.device_meaning.specs.Judging.{judge_by}
use Rattle.pushdown.proofs.Lasting.{events_keep_shapes}
use Rattle.pushdown.proofs.laws.events_keep_shapes.Goals as goal

pub returns : goal.returns
returns g c = events_keep_shapes (judge_by g.D.Domain.operations)
