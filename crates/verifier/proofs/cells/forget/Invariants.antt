use Rattle.std.proofs.Common.{◌≡◌}
use Rattle.verifier.proofs.Stores.{forgotten_upto}
use Rattle.verifier.proofs.cells.forget.Given as goal

abbrev pub invariant-loop-j : goal.invariant-loop-j
invariant-loop-j g l = l.cells ≡ forgotten_upto l.first l.last l.j 0 l.initial.cells
