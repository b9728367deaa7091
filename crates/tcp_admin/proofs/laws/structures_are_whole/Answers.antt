use Rattle.tcp_admin.proofs.Whole.{structures_are_whole}
use Rattle.tcp_admin.proofs.laws.structures_are_whole.Goals as goal

pub returns : goal.returns
returns c = structures_are_whole
