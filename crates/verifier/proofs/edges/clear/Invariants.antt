use Rattle.std.proofs.Common.{◌≡◌, ◌++◌, replicate, drop}
use Rattle.verifier.proofs.edges.clear.Given as goal

abbrev pub invariant-loop-i : goal.invariant-loop-i
invariant-loop-i g l = l.registers ≡ replicate l.i l.zero ++ drop l.i l.initial.registers
