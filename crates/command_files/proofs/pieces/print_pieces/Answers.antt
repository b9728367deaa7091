use Rattle.std.proofs.Common.{◌<◌, length, arith, refl}
use Rattle.std.proofs.lemmas.List.{get_or_default}
use Rattle.command_files.specs.declared.pieces.Piece.TheVariants.{Nothing}
use Rattle.command_files.proofs.PrintLemmas.{printed_more}
use Rattle.command_files.proofs.pieces.print_pieces.Goals as goal

pub loop-piece-preserved : goal.loop-piece-preserved
loop-piece-preserved g c =
    let within : c.loop-piece.piece-index < length c.args.pieces.now = omega arith in
    printed_more _ _ _ c.args.pieces.now c.loop-piece.piece-index _ within c.loop-piece.invariant c.in_ok-write.ensures.bytes
    (rw (get_or_default c.args.pieces.now c.loop-piece.piece-index _ Nothing within) refl)
