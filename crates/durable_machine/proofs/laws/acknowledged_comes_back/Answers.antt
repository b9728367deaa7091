use Rattle.durable_machine.proofs.ComingBack.{comes_back}
use Rattle.durable_machine.proofs.laws.acknowledged_comes_back.Goals as goal

pub returns : goal.returns
returns g c = comes_back g.M.Machine.loads g.M.Machine.next c.args.store.now.machine c.args.store.now.events.journal.gate _ c.requires
