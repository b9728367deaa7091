use Rattle.device_laws.proofs.Reached.{saved_states_load}
use Rattle.device_laws.proofs.laws.saved_states_load.Goals as goal

pub returns : goal.returns
returns c = saved_states_load
