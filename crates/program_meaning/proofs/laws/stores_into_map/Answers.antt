use Rattle.program_meaning.proofs.MapLemmas.{stores}
use Rattle.program_meaning.proofs.laws.stores_into_map.Goals as goal

pub returns : goal.returns
returns c = stores
