use Rattle.tcp_loop.proofs.Fairness.{begins_grown}
use Rattle.tcp_loop.proofs.serving.Loop.turn_once.Goals as goal

pub returns-clause-fair : goal.returns-clause-fair
returns-clause-fair g c = λ o trace f. begins_grown g.T.KeptTarget.means g.T.KeptTarget.free o trace _ _ _ _ _ (c.give_turn-one.ensures.grows o) f
