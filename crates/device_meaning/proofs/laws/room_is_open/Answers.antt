use Rattle.device_meaning.proofs.TurnsFit.{room_is_open}
use Rattle.device_meaning.proofs.laws.room_is_open.Goals as goal

pub returns : goal.returns
returns c = room_is_open
