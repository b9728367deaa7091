use Rattle.tcp_target.proofs.PlaceOrder.{places_keep_order}
use Rattle.tcp_target.proofs.laws.places_keep_order.Goals as goal

pub returns : goal.returns
returns c = places_keep_order
