use Rattle.device_meaning.specs.Judging.{interval_judge}
use Rattle.pushdown.proofs.Proved.{only_loads_change_slots}
use Rattle.device_laws.proofs.laws.only_loads_change_slots.Goals as goal

pub returns : goal.returns
returns c = only_loads_change_slots interval_judge
