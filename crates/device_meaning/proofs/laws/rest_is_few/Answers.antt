use Rattle.device_meaning.proofs.Rests.{rest_is_few}
use Rattle.device_meaning.proofs.laws.rest_is_few.Goals as goal

pub returns : goal.returns
returns c = rest_is_few
