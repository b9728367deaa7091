use Rattle.tcp_device.proofs.Rounds.{next_is_answered}
use Rattle.tcp_device.proofs.laws.next_is_answered.Goals as goal

pub returns : goal.returns
returns c = next_is_answered c.connections_stay.ensures
