use Rattle.zone_resources.proofs.LimitLemmas.{admission_keeps_limits}
use Rattle.zone_resources.proofs.laws.admission_keeps_limits.Goals as goal

pub returns : goal.returns
returns c = admission_keeps_limits
