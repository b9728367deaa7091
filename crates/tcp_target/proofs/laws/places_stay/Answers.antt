use Rattle.tcp_target.proofs.Others.{places_stay}
use Rattle.tcp_target.proofs.laws.places_stay.Goals as goal

pub returns : goal.returns
returns c = places_stay
