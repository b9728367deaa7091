use Rattle.tcp_device.proofs.Waiting.{runs_go_on}
use Rattle.tcp_device.proofs.laws.runs_go_on.Goals as goal

pub returns : goal.returns
returns c = runs_go_on c.connections_stay.ensures c.data_begins_aligned.ensures c.structures_are_whole.ensures
