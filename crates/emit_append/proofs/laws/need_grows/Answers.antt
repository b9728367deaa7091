use Rattle.emit_append.proofs.Needs.{need_grows}
use Rattle.emit_append.proofs.laws.need_grows.Goals as goal

pub returns : goal.returns
returns c = need_grows
