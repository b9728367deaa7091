use Rattle.tcp_connection.proofs.StepsJoined.{steps_join}
use Rattle.tcp_connection.proofs.laws.steps_join.Goals as goal

pub returns : goal.returns
returns c = steps_join
