use Rattle.zone_resources.proofs.LimitLemmas.{idle_holds_no_more}
use Rattle.zone_resources.proofs.laws.idle_holds_no_more.Goals as goal

pub returns : goal.returns
returns c = idle_holds_no_more
