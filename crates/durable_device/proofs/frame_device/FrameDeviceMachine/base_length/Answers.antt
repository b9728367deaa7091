use Rattle.durable_device.proofs.Kept.{device_needs}
use Rattle.durable_device.proofs.frame_device.FrameDeviceMachine.base_length.Goals as goal

pub returns : goal.returns
returns c = device_needs c.base_length.result c.args.front.now c.base_length.ensures
