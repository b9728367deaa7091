use Rattle.accepted_programs.proofs.FirstRefusals.{refusal_inside}
use Rattle.accepted_programs.proofs.laws.refusal_is_inside.Goals as goal

pub returns : goal.returns
returns g c = refusal_inside g.D.Domain.operations
