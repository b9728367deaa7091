use Rattle.tcp_target.proofs.Apart.{queues_stay_apart}
use Rattle.tcp_target.proofs.laws.queues_stay_apart.Goals as goal

pub returns : goal.returns
returns c = queues_stay_apart
