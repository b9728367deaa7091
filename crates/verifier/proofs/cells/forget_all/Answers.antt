use Rattle.std.proofs.Common.{None, arith}
use Rattle.verifier.proofs.Fills.{all_filled, one_filled}
use Rattle.verifier.proofs.cells.forget_all.Goals as goal

pub loop-j-preserved : goal.loop-j-preserved
loop-j-preserved g c = one_filled None c.loop-j.j c.args.cells.now c.loop-j.cells c.loop-j.invariant (omega arith)

pub returns : goal.returns
returns g c = all_filled None 64 c.loop-j.j c.args.cells.now c.loop-j.cells c.loop-j.invariant (omega arith) c.told-cells
