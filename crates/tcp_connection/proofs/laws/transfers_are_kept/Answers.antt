use Rattle.tcp_connection.proofs.TransfersKept.{transfers_are_kept}
use Rattle.tcp_connection.proofs.laws.transfers_are_kept.Goals as goal

pub returns : goal.returns
returns c = transfers_are_kept
