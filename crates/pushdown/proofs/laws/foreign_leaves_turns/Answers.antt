use Rattle.device_meaning.specs.Judging.{judge_by}
use Rattle.pushdown.proofs.OthersEvents.{foreign_leaves_turns}
use Rattle.pushdown.proofs.laws.foreign_leaves_turns.Goals as goal

pub returns : goal.returns
returns g c = foreign_leaves_turns (judge_by g.D.Domain.operations)
