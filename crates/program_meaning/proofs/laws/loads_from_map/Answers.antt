use Rattle.program_meaning.proofs.MapLemmas.{loads}
use Rattle.program_meaning.proofs.laws.loads_from_map.Goals as goal

pub returns : goal.returns
returns c = loads
