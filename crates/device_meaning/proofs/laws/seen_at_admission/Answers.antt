use Rattle.device_meaning.proofs.Views.{seen_at_admission}
use Rattle.device_meaning.proofs.laws.seen_at_admission.Goals as goal

pub returns : goal.returns
returns c = seen_at_admission
