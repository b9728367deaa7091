use Rattle.program_meaning.proofs.MapLemmas.{access_mapped}
use Rattle.program_meaning.proofs.laws.access_is_mapped.Goals as goal

pub returns : goal.returns
returns c = access_mapped
