use Rattle.device_library.proofs.OneByOne.{one_by_one}
use Rattle.device_library.proofs.laws.turns_are_one_by_one.Goals as goal

pub returns : goal.returns
returns c = one_by_one
