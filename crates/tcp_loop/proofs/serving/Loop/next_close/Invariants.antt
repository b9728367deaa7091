use Rattle.std.proofs.Common.{◌≤◌, ◌<◌, ℕ}
use Rattle.tcp_loop.specs.Fair.{ToClose}
use Rattle.tcp_loop.proofs.serving.Loop.next_close.Given as goal

abbrev pub invariant-loop-place : goal.invariant-loop-place
invariant-loop-place g l = (other : ℕ) → 0 ≤ other → other < l.place → ToClose other l.self.hosts → ⊥
