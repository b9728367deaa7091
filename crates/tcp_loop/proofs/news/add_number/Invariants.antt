use Rattle.std.proofs.Common.{◌≤◌}
use Rattle.tcp_loop.proofs.news.add_number.Given as goal

abbrev pub invariant-loop-place : goal.invariant-loop-place
invariant-loop-place l = l.first ≤ 19
