use Rattle.accepted_programs.proofs.ByBounds.{judges_by_bounds}
use Rattle.accepted_programs.proofs.laws.judges_by_bounds.Goals as goal

pub returns : goal.returns
returns g c = judges_by_bounds g.D.Domain.operations
