use Rattle.std.proofs.Common.{arith}
use Rattle.accepted_programs.specs.Cells.{join_cell}
use Rattle.verifier.proofs.Joins.{each_joined, one_joined}
use Rattle.verifier.proofs.cells.join.Goals as goal

pub loop-j-preserved : goal.loop-j-preserved
loop-j-preserved g c =
    one_joined (join_cell g.D.Domain.operations.join) c.loop-j.j c.args.cells.now c.args.others.now c.loop-j.cells
    c.index-cells-j.result c.index-others-j.result c.join_cell-joined.result c.loop-j.invariant c.join_cell-joined.ensures (omega arith) (omega arith)

pub returns : goal.returns
returns g c =
    each_joined (join_cell g.D.Domain.operations.join) 64 c.loop-j.j c.args.cells.now c.args.others.now c.loop-j.cells c.loop-j.invariant
    (omega arith) (omega arith) (omega arith)
