use Rattle.device_meaning.proofs.Rests.{rest_at_admission}
use Rattle.device_meaning.proofs.laws.rest_at_admission.Goals as goal

pub returns : goal.returns
returns c = rest_at_admission
