use Rattle.tcp_target.proofs.Cuts.{pieces_join}
use Rattle.tcp_target.proofs.pieces.pieces_join.Goals as goal

pub returns : goal.returns
returns c = pieces_join c.queue_pieces_join.ensures
