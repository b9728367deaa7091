use Rattle.tcp_device.proofs.Order.{commands_are_in_order}
use Rattle.tcp_device.proofs.laws.commands_are_in_order.Goals as goal

pub returns : goal.returns
returns c = commands_are_in_order c.connections_stay.ensures
