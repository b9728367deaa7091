use Rattle.accepted_programs.proofs.Soundness.{facts_are_met}
use Rattle.accepted_programs.proofs.laws.facts_are_met.Goals as goal

pub returns : goal.returns
returns g c = facts_are_met c.sound.ensures
