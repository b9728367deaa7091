use Rattle.std.proofs.Common.{◌≤◌, ◌<◌, ℕ}
use Rattle.tcp_loop.specs.Fair.{ToRead}
use Rattle.tcp_loop.proofs.serving.Loop.next_read.Given as goal

abbrev pub invariant-loop-place : goal.invariant-loop-place
invariant-loop-place g l = (other : ℕ) → l.fn.from ≤ other → other < l.place → ToRead other l.self.hosts l.self.incoming.items → ⊥
