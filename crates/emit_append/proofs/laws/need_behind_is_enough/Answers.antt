use Rattle.emit_append.proofs.NeedsBehind.{need_behind_is_enough}
use Rattle.emit_append.proofs.laws.need_behind_is_enough.Goals as goal

pub returns : goal.returns
returns c = need_behind_is_enough
