use Rattle.device_laws.proofs.UsersLaws.{turns_are_few}
use Rattle.device_laws.proofs.laws.turns_are_few.Goals as goal

pub returns : goal.returns
returns c = turns_are_few
