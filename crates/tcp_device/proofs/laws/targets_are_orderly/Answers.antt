use Rattle.tcp_device.proofs.Ordering.{orderly}
use Rattle.tcp_device.proofs.laws.targets_are_orderly.Goals as goal

pub returns : goal.returns
returns c = orderly
