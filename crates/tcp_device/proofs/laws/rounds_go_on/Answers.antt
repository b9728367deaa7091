use Rattle.tcp_device.proofs.Rounds.{rounds_go_on}
use Rattle.tcp_device.proofs.laws.rounds_go_on.Goals as goal

pub returns : goal.returns
returns c = rounds_go_on c.connections_stay.ensures
