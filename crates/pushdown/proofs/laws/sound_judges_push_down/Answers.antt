use Rattle.pushdown.proofs.Pushdown.{pushdown}
use Rattle.pushdown.proofs.laws.sound_judges_push_down.Goals as goal

pub returns : goal.returns
returns c = pushdown
