use Rattle.device_meaning.specs.Judging.{judge_by}
use Rattle.pushdown.proofs.Answered.{only_loads_change_slots}
use Rattle.pushdown.proofs.laws.only_loads_change_slots.Goals as goal

pub returns : goal.returns
returns g c = only_loads_change_slots (judge_by g.D.Domain.operations)
