use Rattle.std.proofs.Common.{◌≡◌}
use Rattle.verifier.proofs.Joins.{joined_upto}
use Rattle.verifier.proofs.facts.join_registers.Given as goal

abbrev pub invariant-loop-i : goal.invariant-loop-i
invariant-loop-i g l = l.registers ≡ joined_upto g.D.Domain.operations.join l.i l.initial.registers l.others
