use Rattle.tcp_loop.specs.Holding.{Keeps}
use Rattle.tcp_loop.specs.Kept.{Attending, Resting}
use Rattle.tcp_loop.specs.Fair.{Begins, Fairly}
use Rattle.tcp_loop.proofs.serving.Loop.advance_all.Given as goal

abbrev pub invariant-loop-place : goal.invariant-loop-place
invariant-loop-place g l = Keeps g.T.KeptTarget.means Resting (g.T.KeptTarget.at l.fn.self.target) l.fn.self.incoming.items l.fn.self.clock
    Resting (g.T.KeptTarget.at l.self.target) l.self.incoming.items l.self.clock
    × Fairly g.T.KeptTarget.means g.T.KeptTarget.free Begins l.fn.self.hosts l.fn.self.incoming.items (g.T.KeptTarget.at l.fn.self.target)
    Begins l.self.hosts l.self.incoming.items (g.T.KeptTarget.at l.self.target)
    × Keeps g.T.KeptTarget.means (Attending 0) (g.T.KeptTarget.at l.fn.self.target) l.fn.self.incoming.items l.fn.self.clock
    (Attending l.place) (g.T.KeptTarget.at l.self.target) l.self.incoming.items l.self.clock
