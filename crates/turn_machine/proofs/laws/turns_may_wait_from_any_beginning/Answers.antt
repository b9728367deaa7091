use Rattle.turn_machine.proofs.FromBeginnings.{turns_may_wait_from_any_beginning}
use Rattle.turn_machine.proofs.laws.turns_may_wait_from_any_beginning.Goals as goal

pub returns : goal.returns
returns c = turns_may_wait_from_any_beginning
