use Rattle.event_frames.proofs.Streams.{frames_read_back}
use Rattle.event_frames.proofs.laws.frames_read_back.Goals as goal

pub returns : goal.returns
returns c = frames_read_back
