use Rattle.emit_append.proofs.Wholes.{output_blocks_are_whole}
use Rattle.emit_append.proofs.laws.output_blocks_are_whole.Goals as goal

pub returns : goal.returns
returns c = output_blocks_are_whole
