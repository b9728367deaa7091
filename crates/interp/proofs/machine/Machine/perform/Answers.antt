use Rattle.std.proofs.Common.{eq-eqb}
use Rattle.interp.proofs.machine.Machine.perform.Goals as goal

pub returns-then-helper-eq-EMIT-clause-value : goal.returns-then-helper-eq-EMIT-clause-value
returns-then-helper-eq-EMIT-clause-value c slot =
    rw (c.in-Call.is, eq-eqb _ _ c.if-helper-eq-EMIT.true) (c.emit.ensures.value slot)

pub returns-then-helper-eq-EMIT-clause-state : goal.returns-then-helper-eq-EMIT-clause-state
returns-then-helper-eq-EMIT-clause-state c slot = rw c.in-Call.is (c.emit.ensures.state slot)
