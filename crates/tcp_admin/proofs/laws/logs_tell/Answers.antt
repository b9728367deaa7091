use Rattle.tcp_admin.proofs.Whole.{logs_tell}
use Rattle.tcp_admin.proofs.laws.logs_tell.Goals as goal

pub returns : goal.returns
returns c = logs_tell
