use Rattle.tcp_device.proofs.Told.{outcomes_are_told}
use Rattle.tcp_device.proofs.laws.outcomes_are_told.Goals as goal

pub returns : goal.returns
returns c = outcomes_are_told c.completions_tell.ensures
