use Rattle.tcp_target.proofs.QueueCuts.{queue_pieces_join}
use Rattle.tcp_target.proofs.pieces.queue_pieces_join.Goals as goal

pub returns : goal.returns
returns c = queue_pieces_join c.place_pieces_join.ensures
