use Rattle.durable_machine.proofs.ComingBack.{restarts}
use Rattle.durable_machine.proofs.laws.restarts_come_back.Goals as goal

pub returns : goal.returns
returns g c = restarts g.M.Machine.loads g.M.Machine.next
