use Rattle.std.proofs.Common.{◌≤◌, ◌<◌, ℕ}
use Rattle.tcp_loop.specs.Fair.{ToWrite}
use Rattle.tcp_loop.proofs.serving.Loop.next_write.Given as goal

abbrev pub invariant-loop-place : goal.invariant-loop-place
invariant-loop-place g l = (other : ℕ) → l.fn.from ≤ other → other < l.place
    → ToWrite other l.self.hosts (g.T.KeptTarget.means.to_send other (g.T.KeptTarget.at l.self.target).state) → ⊥
