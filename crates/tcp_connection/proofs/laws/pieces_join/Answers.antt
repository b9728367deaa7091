use Rattle.tcp_connection.proofs.PiecesJoined.{pieces_join}
use Rattle.tcp_connection.proofs.laws.pieces_join.Goals as goal

pub returns : goal.returns
returns c = pieces_join
