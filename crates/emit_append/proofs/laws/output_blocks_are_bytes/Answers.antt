use Rattle.emit_append.proofs.Wholes.{output_blocks_are_bytes}
use Rattle.emit_append.proofs.laws.output_blocks_are_bytes.Goals as goal

pub returns : goal.returns
returns c = output_blocks_are_bytes
