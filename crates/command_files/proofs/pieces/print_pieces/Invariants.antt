use Rattle.std.proofs.Common.{take}
use Rattle.std.specs.Io.KnownBytes.{Appends}
use Rattle.command_files.specs.Pieces.{pieces_text}
use Rattle.command_files.proofs.pieces.print_pieces.Given as goal

abbrev pub invariant-loop-piece : goal.invariant-loop-piece
invariant-loop-piece g l = Appends (g.W.Write.contents l.fn.out) (g.W.Write.contents l.out) (pieces_text (take l.piece-index l.pieces))
