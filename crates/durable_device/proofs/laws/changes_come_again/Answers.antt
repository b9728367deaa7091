use Rattle.durable_device.proofs.ComingAgain.{changes_come_again}
use Rattle.durable_device.proofs.laws.changes_come_again.Goals as goal

pub returns : goal.returns
returns c = changes_come_again
