use Rattle.accepted_programs.proofs.Soundness.{accepted_accesses_lie}
use Rattle.accepted_programs.proofs.laws.accepted_accesses_lie.Goals as goal

pub returns : goal.returns
returns g c = accepted_accesses_lie c.sound.ensures
