use Rattle.std.proofs.Common.{refl}
use Rattle.durable_machine.proofs.Sealing.{zeros_closed}
use Rattle.durable_machine.proofs.gates.closed_sector.Goals as goal

pub returns : goal.returns
returns c = zeros_closed _ refl
