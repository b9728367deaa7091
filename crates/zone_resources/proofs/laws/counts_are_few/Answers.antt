use Rattle.zone_resources.proofs.CountLemmas.{counts_are_few}
use Rattle.zone_resources.proofs.laws.counts_are_few.Goals as goal

pub returns : goal.returns
returns c = counts_are_few
