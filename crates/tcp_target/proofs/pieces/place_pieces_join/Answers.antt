use Rattle.tcp_target.proofs.PlaceCuts.{place_pieces_join}
use Rattle.tcp_target.proofs.pieces.place_pieces_join.Goals as goal

pub returns : goal.returns
returns c = place_pieces_join c.steps_join.ensures
