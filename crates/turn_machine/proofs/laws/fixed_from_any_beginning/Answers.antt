use Rattle.turn_machine.proofs.FromBeginnings.{fixed_from_any_beginning}
use Rattle.turn_machine.proofs.laws.fixed_from_any_beginning.Goals as goal

pub returns : goal.returns
returns c = fixed_from_any_beginning
