use Rattle.program_meaning.proofs.CauseLemmas.{stuck_by_least}
use Rattle.program_meaning.proofs.laws.stuck_by_least.Goals as goal

pub returns : goal.returns
returns c = stuck_by_least
