use Rattle.program_meaning.proofs.Granted.{keeps_to_granted}
use Rattle.program_meaning.proofs.laws.exits_keep_to_granted_areas.Goals as goal

pub returns : goal.returns
returns c = keeps_to_granted
