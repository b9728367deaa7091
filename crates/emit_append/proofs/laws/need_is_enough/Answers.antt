use Rattle.emit_append.proofs.Needs.{need_is_enough}
use Rattle.emit_append.proofs.laws.need_is_enough.Goals as goal

pub returns : goal.returns
returns c = need_is_enough
