use Rattle.std.specs.Prelude.{◌≡◌, false}
use Rattle.tcp_loop.specs.Holding.{Keeps}
use Rattle.tcp_loop.specs.Kept.{Attending, Resting}
use Rattle.tcp_loop.specs.Fair.{Begins, Fairly}
use Rattle.tcp_loop.proofs.serving.Loop.give_turns.Given as goal

abbrev pub invariant-loop : goal.invariant-loop
invariant-loop g l = Keeps g.T.KeptTarget.means Resting (g.T.KeptTarget.at l.fn.self.target) l.fn.self.incoming.items l.fn.self.clock
    Resting (g.T.KeptTarget.at l.self.target) l.self.incoming.items l.self.clock
    × Fairly g.T.KeptTarget.means g.T.KeptTarget.free Begins l.fn.self.hosts l.fn.self.incoming.items (g.T.KeptTarget.at l.fn.self.target)
    Begins l.self.hosts l.self.incoming.items (g.T.KeptTarget.at l.self.target)
    × (l.last.failed ≡ false
    → Keeps g.T.KeptTarget.means Resting (g.T.KeptTarget.at l.fn.self.target) l.fn.self.incoming.items l.fn.self.clock
    (Attending 0) (g.T.KeptTarget.at l.self.target) l.self.incoming.items l.self.clock)
