use Rattle.zone_resources.proofs.AdmissionLemmas.{closes_the_lowest}
use Rattle.zone_resources.proofs.laws.closes_the_lowest.Goals as goal

pub returns : goal.returns
returns c = closes_the_lowest
