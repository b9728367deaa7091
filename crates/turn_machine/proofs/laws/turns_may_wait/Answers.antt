use Rattle.turn_machine.proofs.Waiting.{turns_may_wait}
use Rattle.turn_machine.proofs.laws.turns_may_wait.Goals as goal

pub returns : goal.returns
returns c = turns_may_wait
