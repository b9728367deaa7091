use Rattle.tcp_device.proofs.Counting.{runs_are_counted}
use Rattle.tcp_device.proofs.laws.runs_are_counted.Goals as goal

pub returns : goal.returns
returns c = runs_are_counted c.connections_stay.ensures
