use Rattle.std.proofs.Common.{◌≡◌, ◌+◌, drop}
use Rattle.emit_append.specs.Unpacking.{zeros_at}
use Rattle.emit_append.proofs.unpacking.check_zeros.Given as goal

abbrev pub invariant-loop-i : goal.invariant-loop-i
invariant-loop-i l = zeros_at (l.at + l.i) (drop l.i l.rest) ≡ zeros_at l.at l.rest
