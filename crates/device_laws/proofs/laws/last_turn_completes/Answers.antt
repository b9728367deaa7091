use Rattle.device_meaning.specs.Judging.{interval_judge}
use Rattle.pushdown.proofs.Proved.{last_turn_completes}
use Rattle.device_laws.proofs.Reached.{sound}
use Rattle.device_laws.proofs.laws.last_turn_completes.Goals as goal

pub returns : goal.returns
returns c = last_turn_completes interval_judge sound
