use Rattle.durable_device.proofs.Kept.{files_are_reached}
use Rattle.durable_device.proofs.laws.files_are_reached.Goals as goal

pub returns : goal.returns
returns c = files_are_reached
