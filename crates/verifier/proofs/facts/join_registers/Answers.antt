use Rattle.std.proofs.Common.{arith}
use Rattle.verifier.proofs.Joins.{each_joined, one_joined}
use Rattle.verifier.proofs.facts.join_registers.Goals as goal

pub loop-i-preserved : goal.loop-i-preserved
loop-i-preserved g c =
    one_joined g.D.Domain.operations.join c.loop-i.i c.args.registers.now c.args.others.now c.loop-i.registers
    c.index-registers-i.result c.index-others-i.result c.join-joined.result c.loop-i.invariant c.join-joined.ensures (omega arith) (omega arith)

pub returns : goal.returns
returns g c =
    each_joined g.D.Domain.operations.join 11 c.loop-i.i c.args.registers.now c.args.others.now c.loop-i.registers c.loop-i.invariant
    (omega arith) c.told-registers c.told-others
