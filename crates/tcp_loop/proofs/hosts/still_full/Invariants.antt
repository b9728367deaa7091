use Rattle.std.specs.Prelude.{not}
use Rattle.std.proofs.Common.{◌≡◌, ◌<◌, ◌&&◌, ℕ}
use Rattle.tcp_loop.specs.Rounds.{flag}
use Rattle.tcp_loop.proofs.hosts.still_full.Given as goal

abbrev pub invariant-loop-place : goal.invariant-loop-place
invariant-loop-place l = (other : ℕ) → other < l.place → flag other l.still ≡ (flag other l.full && not (flag other l.ready))
