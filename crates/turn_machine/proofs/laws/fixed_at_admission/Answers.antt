use Rattle.turn_machine.proofs.Machines.{fixed_at_admission}
use Rattle.turn_machine.proofs.laws.fixed_at_admission.Goals as goal

pub returns : goal.returns
returns c = fixed_at_admission
