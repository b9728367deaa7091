use Rattle.device_meaning.specs.Judging.{interval_judge}
use Rattle.device_laws.proofs.UsersLaws.{completed_at_most_once}
use Rattle.device_laws.proofs.laws.completed_at_most_once.Goals as goal

pub returns : goal.returns
returns c = completed_at_most_once interval_judge
