use Rattle.device_laws.proofs.Reached.{empty_is_reached}
use Rattle.device_laws.proofs.laws.empty_is_reached.Goals as goal

pub returns : goal.returns
returns c = empty_is_reached
