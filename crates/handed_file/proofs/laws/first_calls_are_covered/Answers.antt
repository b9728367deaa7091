use Rattle.handed_file.proofs.Covered.{first_covered}
use Rattle.handed_file.proofs.laws.first_calls_are_covered.Goals as goal

pub returns : goal.returns
returns c = first_covered
