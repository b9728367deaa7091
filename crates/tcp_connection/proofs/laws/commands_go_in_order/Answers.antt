use Rattle.tcp_connection.proofs.Order.{commands_go_in_order}
use Rattle.tcp_connection.proofs.laws.commands_go_in_order.Goals as goal

pub returns : goal.returns
returns c = commands_go_in_order
