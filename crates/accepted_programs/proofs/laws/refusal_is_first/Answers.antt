use Rattle.accepted_programs.proofs.FirstRefusals.{refusal_is_first}
use Rattle.accepted_programs.proofs.laws.refusal_is_first.Goals as goal

pub returns : goal.returns
returns g c = refusal_is_first g.D.Domain.operations
