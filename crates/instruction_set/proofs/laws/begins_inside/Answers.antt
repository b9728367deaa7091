use Rattle.instruction_set.proofs.Beginnings.{begun}
use Rattle.instruction_set.proofs.laws.begins_inside.Goals as goal

pub returns : goal.returns
returns c = begun
