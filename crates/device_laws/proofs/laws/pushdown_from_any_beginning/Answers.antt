use Rattle.device_meaning.specs.Judging.{interval_judge}
use Rattle.pushdown.proofs.Proved.{pushdown_from_any_beginning}
use Rattle.device_laws.proofs.Reached.{sound}
use Rattle.device_laws.proofs.laws.pushdown_from_any_beginning.Goals as goal

pub returns : goal.returns
returns c = pushdown_from_any_beginning interval_judge sound
