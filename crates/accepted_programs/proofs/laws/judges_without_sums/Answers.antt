use Rattle.accepted_programs.proofs.Untracked.{judges_without_sums}
use Rattle.accepted_programs.proofs.laws.judges_without_sums.Goals as goal

pub returns : goal.returns
returns g c = judges_without_sums g.D.Domain.operations
