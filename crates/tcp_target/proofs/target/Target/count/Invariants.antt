use Rattle.std.proofs.Common.{◌≡◌}
use Rattle.tcp_target.specs.Time.{counted_below}
use Rattle.tcp_target.proofs.target.Target.count.Given as goal

abbrev pub invariant-loop-number : goal.invariant-loop-number
invariant-loop-number l = l.self ≡ counted_below l.milliseconds l.number l.fn.self
