use Rattle.durable_machine.proofs.ComingBack.{opening}
use Rattle.durable_machine.proofs.laws.opening_changes_nothing.Goals as goal

pub returns : goal.returns
returns g c = opening g.M.Machine.loads g.M.Machine.next
