use Rattle.program_meaning.proofs.Groups.{ends}
use Rattle.program_meaning.proofs.laws.ends_in_run.Goals as goal

pub returns : goal.returns
returns c = ends
