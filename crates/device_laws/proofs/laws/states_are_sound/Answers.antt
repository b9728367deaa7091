use Rattle.device_laws.proofs.Reached.{reached_is_sound}
use Rattle.device_laws.proofs.laws.states_are_sound.Goals as goal

pub returns : goal.returns
returns c = reached_is_sound
