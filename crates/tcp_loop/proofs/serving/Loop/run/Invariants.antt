use Rattle.std.proofs.Common.{◌≡◌, ◌+◌, length}
use Rattle.tcp_loop.specs.Fair.{point_of}
use Rattle.tcp_loop.specs.Kept.{phase_of}
use Rattle.tcp_loop.specs.Progress.{EndsRounds, left_of}
use Rattle.tcp_loop.specs.Running.{FairOn, HoldsOn}
use Rattle.tcp_loop.specs.Stages.{IsReady}
use Rattle.tcp_loop.proofs.serving.Loop.run.Given as goal

abbrev pub invariant-loop-made : goal.invariant-loop-made
invariant-loop-made g l =
    IsReady l.self.stage l.self.incoming.items (g.T.KeptTarget.free (g.T.KeptTarget.at l.self.target).state)
    × HoldsOn g.T.KeptTarget.means
    (g.W.World.trace l.fn.world) (phase_of l.fn.self.stage) (g.T.KeptTarget.at l.fn.self.target) l.fn.self.incoming.items l.fn.self.clock
    (g.W.World.trace l.world) (phase_of l.self.stage) (g.T.KeptTarget.at l.self.target) l.self.incoming.items l.self.clock
    × FairOn g.T.KeptTarget.means g.T.KeptTarget.free
    (g.W.World.trace l.fn.world) (point_of l.fn.self.stage) l.fn.self.hosts l.fn.self.incoming.items (g.T.KeptTarget.at l.fn.self.target)
    (g.W.World.trace l.world) (point_of l.self.stage) l.self.hosts l.self.incoming.items (g.T.KeptTarget.at l.self.target)
    × (EndsRounds (g.W.World.trace l.fn.world) (left_of l.fn.self.stage l.fn.self.hosts.there l.fn.self.lines l.fn.self.finished)
    → EndsRounds (g.W.World.trace l.world) (left_of l.self.stage l.self.hosts.there l.self.lines l.self.finished))
    × (length (g.W.World.trace l.world) ≡ length (g.W.World.trace l.fn.world) + l._made)
