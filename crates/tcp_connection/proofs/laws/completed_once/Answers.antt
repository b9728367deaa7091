use Rattle.tcp_connection.proofs.Identifiers.{completed_once}
use Rattle.tcp_connection.proofs.laws.completed_once.Goals as goal

pub returns : goal.returns
returns c = completed_once
