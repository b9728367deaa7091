use Rattle.emit_append.proofs.ReadBack.{packed_frames_read_back}
use Rattle.emit_append.proofs.laws.packed_frames_read_back.Goals as goal

pub returns : goal.returns
returns c = packed_frames_read_back
