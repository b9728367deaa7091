use Rattle.tcp_target.proofs.ConnectionsStay.{connections_stay}
use Rattle.tcp_target.proofs.laws.connections_stay.Goals as goal

pub returns : goal.returns
returns c = connections_stay
