use Rattle.emit_append.proofs.NeedsBehind.{need_behind_falls, need_behind_grows}
use Rattle.emit_append.proofs.laws.need_behind_falls.Goals as goal

pub returns-clause-more : goal.returns-clause-more
returns-clause-more c = need_behind_grows

pub returns-clause-one_fewer : goal.returns-clause-one_fewer
returns-clause-one_fewer c = need_behind_falls
