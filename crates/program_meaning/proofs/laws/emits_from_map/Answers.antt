use Rattle.program_meaning.proofs.Groups.{emits}
use Rattle.program_meaning.proofs.laws.emits_from_map.Goals as goal

pub returns : goal.returns
returns c = emits
