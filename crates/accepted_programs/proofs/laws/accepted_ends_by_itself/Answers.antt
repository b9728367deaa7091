use Rattle.accepted_programs.proofs.Soundness.{accepted_ends_by_itself}
use Rattle.accepted_programs.proofs.laws.accepted_ends_by_itself.Goals as goal

pub returns : goal.returns
returns g c = accepted_ends_by_itself c.sound.ensures
