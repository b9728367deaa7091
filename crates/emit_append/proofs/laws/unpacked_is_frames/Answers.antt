use Rattle.emit_append.proofs.UnpackedFrames.{unpacked_is_frames}
use Rattle.emit_append.proofs.laws.unpacked_is_frames.Goals as goal

pub returns : goal.returns
returns c = unpacked_is_frames
