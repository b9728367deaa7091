use Rattle.device_meaning.specs.Judging.{interval_judge}
use Rattle.device_meaning.proofs.Proved.{draining_ends}
use Rattle.device_laws.proofs.Reached.{sound}
use Rattle.device_laws.proofs.laws.draining_ends.Goals as goal

pub returns : goal.returns
returns c = draining_ends interval_judge sound
