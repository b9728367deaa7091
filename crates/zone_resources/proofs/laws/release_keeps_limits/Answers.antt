use Rattle.zone_resources.proofs.LimitLemmas.{release_keeps_limits}
use Rattle.zone_resources.proofs.laws.release_keeps_limits.Goals as goal

pub returns : goal.returns
returns c = release_keeps_limits
