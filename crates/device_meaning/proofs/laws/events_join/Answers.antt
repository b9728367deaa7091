use Rattle.device_meaning.proofs.JoinedEvents.{events_join}
use Rattle.device_meaning.proofs.laws.events_join.Goals as goal

pub returns : goal.returns
returns c = events_join
