use Rattle.std.proofs.Common.{◌≡◌, ◌++◌, replicate, drop, None}
use Rattle.verifier.proofs.cells.forget_all.Given as goal

abbrev pub invariant-loop-j : goal.invariant-loop-j
invariant-loop-j g l = l.cells ≡ replicate l.j None ++ drop l.j l.initial.cells
