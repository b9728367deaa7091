use Rattle.zone_resources.proofs.HoldLemmas.{holds_refuse}
use Rattle.zone_resources.proofs.laws.holds_refuse.Goals as goal

pub returns : goal.returns
returns c = holds_refuse
