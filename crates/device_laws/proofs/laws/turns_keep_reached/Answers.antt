use Rattle.device_meaning.specs.Judging.{interval_judge}
use Rattle.device_meaning.proofs.Proved.{turns_keep_reached}
use Rattle.device_laws.proofs.laws.turns_keep_reached.Goals as goal

pub returns : goal.returns
returns c = turns_keep_reached interval_judge
