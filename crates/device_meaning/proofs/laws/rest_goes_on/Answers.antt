use Rattle.device_meaning.proofs.Rests.{rest_goes_on}
use Rattle.device_meaning.proofs.laws.rest_goes_on.Goals as goal

pub returns : goal.returns
returns c = rest_goes_on
