use Rattle.tcp_device.proofs.Queues.{queues_are_apart}
use Rattle.tcp_device.proofs.laws.queues_are_apart.Goals as goal

pub returns : goal.returns
returns c = queues_are_apart c.queues_stay_apart.ensures
