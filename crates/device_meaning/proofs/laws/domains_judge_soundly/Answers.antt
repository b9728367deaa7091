use Rattle.device_meaning.proofs.Judging.{domains_judge_soundly}
use Rattle.device_meaning.proofs.laws.domains_judge_soundly.Goals as goal

pub returns : goal.returns
returns g c = domains_judge_soundly g.D.Domain.operations c.accepted_never_traps.ensures
