use Rattle.device_meaning.specs.Judging.{judge_by}
use Rattle.pushdown.proofs.AnyOrder.{turns_in_any_order}
use Rattle.pushdown.proofs.laws.turns_in_any_order.Goals as goal

pub returns : goal.returns
returns g c = turns_in_any_order (judge_by g.D.Domain.operations) c.domains_judge_soundly.ensures
