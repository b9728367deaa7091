use Rattle.device_meaning.proofs.Rests.{rest_ends}
use Rattle.device_meaning.proofs.laws.rest_ends.Goals as goal

pub returns : goal.returns
returns c = rest_ends
