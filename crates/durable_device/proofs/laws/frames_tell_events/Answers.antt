use Rattle.durable_device.proofs.Frames.{frames_tell_events}
use Rattle.durable_device.proofs.laws.frames_tell_events.Goals as goal

pub returns : goal.returns
returns c = frames_tell_events
