use Rattle.pushdown.proofs.OthersEvents.{turn_takes_first}
use Rattle.pushdown.proofs.laws.turn_takes_first.Goals as goal

pub returns : goal.returns
returns c = turn_takes_first
