use Rattle.tcp_admin.proofs.Whole.{structures_tell}
use Rattle.tcp_admin.proofs.laws.structures_tell.Goals as goal

pub returns : goal.returns
returns c = structures_tell
