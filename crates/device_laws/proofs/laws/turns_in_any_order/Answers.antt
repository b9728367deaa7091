use Rattle.device_meaning.specs.Judging.{interval_judge}
use Rattle.pushdown.proofs.Proved.{turns_in_any_order}
use Rattle.device_laws.proofs.Reached.{sound}
use Rattle.device_laws.proofs.laws.turns_in_any_order.Goals as goal

pub returns : goal.returns
returns c = turns_in_any_order interval_judge sound
