use Rattle.device_meaning.specs.Judging.{interval_judge}
use Rattle.device_meaning.proofs.Proved.{events_keep_reached}
use Rattle.device_laws.proofs.laws.events_keep_reached.Goals as goal

pub returns : goal.returns
returns c = events_keep_reached interval_judge
