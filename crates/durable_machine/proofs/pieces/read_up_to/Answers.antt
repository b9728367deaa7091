use Rattle.durable_machine.proofs.Windows.{read_or_not}
use Rattle.durable_machine.proofs.pieces.read_up_to.Goals as goal

pub returns-clause-read : goal.returns-clause-read
returns-clause-read g c =
    read_or_not c.read_next.result _ _ _ _ _ c.read_next.ensures.read c.read_next.ensures.not_read
