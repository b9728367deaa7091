use Rattle.tcp_target.proofs.Live.{given_are_live}
use Rattle.tcp_target.proofs.laws.given_are_live.Goals as goal

pub returns : goal.returns
returns c = given_are_live
