use Rattle.emit_append.proofs.Needs.{need_is_met}
use Rattle.emit_append.proofs.laws.need_is_met.Goals as goal

pub returns : goal.returns
returns c = need_is_met
