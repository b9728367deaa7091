use Rattle.accepted_programs.proofs.FirstRefusals.{accepted_fails_nowhere}
use Rattle.accepted_programs.proofs.laws.accepted_fails_nowhere.Goals as goal

pub returns : goal.returns
returns g c = accepted_fails_nowhere g.D.Domain.operations
