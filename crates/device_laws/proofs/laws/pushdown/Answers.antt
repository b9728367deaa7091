use Rattle.device_meaning.specs.Judging.{interval_judge}
use Rattle.pushdown.proofs.Proved.{pushdown}
use Rattle.device_laws.proofs.Reached.{sound}
use Rattle.device_laws.proofs.laws.pushdown.Goals as goal

pub returns : goal.returns
returns c = pushdown interval_judge sound
