use Rattle.device_meaning.proofs.JoinedEvents.{drained_in_one_way}
use Rattle.device_meaning.proofs.laws.drained_in_one_way.Goals as goal

pub returns : goal.returns
returns c = drained_in_one_way
