use Rattle.tcp_target.proofs.Others.{others_stay}
use Rattle.tcp_target.proofs.laws.others_stay.Goals as goal

pub returns : goal.returns
returns c = others_stay
