use Rattle.tcp_connection.proofs.Receivers.{receiver_after}
use Rattle.tcp_connection.proofs.receiver.Receiver.take.Goals as goal

pub invariant_of-self : goal.invariant_of-self
invariant_of-self c =
    receiver_after c.self.inside.expected c.self.inside.parts c.grow-count.new.parts c.args.piece.now c.grow-count.result.0 c.grow-count.result.1
    c.grow-count.ensures
