use Rattle.device_meaning.specs.Judging.{judge_by}
use Rattle.pushdown.proofs.Answered.{refused_leaves_state}
use Rattle.pushdown.proofs.laws.refused_leaves_state.Goals as goal

pub returns : goal.returns
returns g c = refused_leaves_state (judge_by g.D.Domain.operations)
