use Rattle.device_meaning.specs.Judging.{interval_judge}
use Rattle.pushdown.proofs.Proved.{refused_leaves_state}
use Rattle.device_laws.proofs.laws.refused_leaves_state.Goals as goal

pub returns : goal.returns
returns c = refused_leaves_state interval_judge
