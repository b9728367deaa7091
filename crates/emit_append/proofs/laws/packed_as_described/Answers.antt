use Rattle.emit_append.proofs.GroupsOfBlocks.{packed_as_described}
use Rattle.emit_append.proofs.laws.packed_as_described.Goals as goal

pub returns : goal.returns
returns c = packed_as_described
