use Rattle.device_meaning.specs.Judging.{interval_judge}
use Rattle.device_laws.proofs.UsersLaws.{same_events}
use Rattle.device_laws.proofs.laws.same_events_same_answers.Goals as goal

pub returns : goal.returns
returns c = same_events interval_judge
