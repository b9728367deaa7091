use Rattle.device_meaning.proofs.Views.{seen_stays}
use Rattle.device_meaning.proofs.laws.seen_stays.Goals as goal

pub returns : goal.returns
returns c = seen_stays
