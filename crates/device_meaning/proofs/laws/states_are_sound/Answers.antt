use Rattle.device_meaning.specs.Judging.{judge_by}
use Rattle.device_meaning.proofs.SoundStates.{states_are_sound}
use Rattle.device_meaning.proofs.laws.states_are_sound.Goals as goal

pub returns : goal.returns
returns g c = states_are_sound (judge_by g.D.Domain.operations) c.domains_judge_soundly.ensures
