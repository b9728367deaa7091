use Rattle.device_meaning.specs.Judging.{interval_judge}
use Rattle.device_laws.proofs.Reached.{sound}
use Rattle.device_laws.proofs.UsersLaws.{outcome_is_its_own}
use Rattle.device_laws.proofs.laws.outcome_is_its_own.Goals as goal

pub returns : goal.returns
returns c = outcome_is_its_own interval_judge sound
