use Rattle.tcp_device.proofs.Answering.{commands_are_answered}
use Rattle.tcp_device.proofs.laws.commands_are_answered.Goals as goal

pub returns : goal.returns
returns c = commands_are_answered c.connections_stay.ensures
