use Rattle.std.proofs.Common.{length, arith, ap}
use Rattle.durable_machine.proofs.Unwritten.{none_spelled}
use Rattle.durable_machine.proofs.batch.Batch.clear.Goals as goal

pub returns : goal.returns
returns c = none_spelled _ (omega (arith, ap length c.clear.ensures.items))
