use Rattle.device_laws.proofs.Reached.{loaded_is_reached}
use Rattle.device_laws.proofs.laws.loaded_is_reached.Goals as goal

pub returns : goal.returns
returns c = loaded_is_reached
