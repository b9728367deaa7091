use Rattle.device_meaning.proofs.TurnsFit.{room_stays}
use Rattle.device_meaning.proofs.laws.room_stays.Goals as goal

pub returns : goal.returns
returns c = room_stays
