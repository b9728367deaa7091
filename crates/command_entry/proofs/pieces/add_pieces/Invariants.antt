use Rattle.command_entry.proofs.pieces.add_pieces.Given as goal

abbrev pub decreases-loop-left : goal.decreases-loop-left
decreases-loop-left l = l.left
