use Rattle.std.proofs.Common.{◌≡◌}
use Rattle.accepted_programs.specs.Cells.{join_cell}
use Rattle.verifier.proofs.Joins.{joined_upto}
use Rattle.verifier.proofs.cells.join.Given as goal

abbrev pub invariant-loop-j : goal.invariant-loop-j
invariant-loop-j g l = l.cells ≡ joined_upto (join_cell g.D.Domain.operations.join) l.j l.initial.cells l.others
