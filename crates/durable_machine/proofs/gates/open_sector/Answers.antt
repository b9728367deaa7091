use Rattle.std.proofs.Common.{refl}
use Rattle.durable_machine.proofs.Sealing.{ones_open}
use Rattle.durable_machine.proofs.gates.open_sector.Goals as goal

pub returns : goal.returns
returns c = ones_open _ refl
