use Rattle.tcp_target.proofs.Counted.{time_is_counted}
use Rattle.tcp_target.proofs.laws.time_is_counted.Goals as goal

pub returns : goal.returns
returns c = time_is_counted
