use Rattle.accepted_programs.proofs.Soundness.{accepted_emits_no_more}
use Rattle.accepted_programs.proofs.laws.accepted_emits_no_more.Goals as goal

pub returns : goal.returns
returns g c = accepted_emits_no_more c.sound.ensures
