use Rattle.accepted_programs.proofs.Soundness.{accepted_never_traps}
use Rattle.accepted_programs.proofs.laws.accepted_never_traps.Goals as goal

pub returns : goal.returns
returns g c = accepted_never_traps c.sound.ensures
