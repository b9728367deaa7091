use Rattle.device_meaning.specs.Judging.{judge_by}
use Rattle.pushdown.proofs.LastTurns.{last_turn_completes}
use Rattle.pushdown.proofs.laws.last_turn_completes.Goals as goal

pub returns : goal.returns
returns g c = last_turn_completes (judge_by g.D.Domain.operations) c.domains_judge_soundly.ensures
