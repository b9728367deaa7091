use Rattle.std.proofs.Common.{◌≡◌, ◌<◌, ℕ}
use Rattle.tcp_loop.specs.Fair.{IsWatchedAt}
use Rattle.tcp_loop.proofs.serving.Loop.watched.Given as goal

-- those below are watched as they are to be
abbrev pub invariant-loop-place : goal.invariant-loop-place
invariant-loop-place g l = record {
  below : (other : ℕ) → other < l.place
      → IsWatchedAt g.T.KeptTarget.means l.watched l.self.hosts l.self.incoming.items (g.T.KeptTarget.at l.self.target).state other;
  accepts : l.watched.accepts ≡ l.self.hosts.accepts;
}
