use Rattle.tcp_connection.proofs.Apart.{transfers_stay_apart}
use Rattle.tcp_connection.proofs.laws.transfers_stay_apart.Goals as goal

pub returns : goal.returns
returns c = transfers_stay_apart
