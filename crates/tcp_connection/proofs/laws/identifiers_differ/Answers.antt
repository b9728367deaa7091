use Rattle.tcp_connection.proofs.Identifiers.{identifiers_differ}
use Rattle.tcp_connection.proofs.laws.identifiers_differ.Goals as goal

pub returns : goal.returns
returns c = identifiers_differ
