use Rattle.device_meaning.proofs.Outcomes.{outcome_is_packed}
use Rattle.device_meaning.proofs.laws.outcome_is_packed.Goals as goal

pub returns : goal.returns
returns c = outcome_is_packed
