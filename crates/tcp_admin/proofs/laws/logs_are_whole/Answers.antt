use Rattle.tcp_admin.proofs.Whole.{logs_are_whole}
use Rattle.tcp_admin.proofs.laws.logs_are_whole.Goals as goal

pub returns : goal.returns
returns c = logs_are_whole
