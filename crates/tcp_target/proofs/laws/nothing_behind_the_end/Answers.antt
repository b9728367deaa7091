use Rattle.tcp_target.proofs.PlaceEnds.{nothing_behind_the_end}
use Rattle.tcp_target.proofs.laws.nothing_behind_the_end.Goals as goal

pub returns : goal.returns
returns c = nothing_behind_the_end
