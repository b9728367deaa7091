use Rattle.emit_append.proofs.LowestRefused.{refused_is_lowest}
use Rattle.emit_append.proofs.laws.refused_is_lowest.Goals as goal

pub returns : goal.returns
returns c = refused_is_lowest
