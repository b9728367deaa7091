use Rattle.device_meaning.specs.Judging.{interval_judge}
use Rattle.device_laws.proofs.Reached.{sound}
use Rattle.device_laws.proofs.UsersLaws.{enough_turns_complete}
use Rattle.device_laws.proofs.laws.enough_turns_complete.Goals as goal

pub returns : goal.returns
returns c = enough_turns_complete interval_judge sound
