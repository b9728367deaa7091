use Rattle.std.proofs.Common.{refl}
use Rattle.std.proofs.lemmas.Result.{err_from_is_err_and}
use Rattle.ebpf_asm.proofs.Operands.{none_of-one}
use Rattle.ebpf_asm.proofs.statement.none.Goals as goal

pub returns-in_err-one : goal.returns-in_err-one
returns-in_err-one c =
    let p = err_from_is_err_and c.from_residual.result c.from_residual.ensures.1 in
    rw (p.1, p.2, none_of-one) (rw (← c.in_err-one.ensures) refl)

pub returns-then-is_empty : goal.returns-then-is_empty
returns-then-is_empty c = rw none_of-one (rw (← c.in_ok-one.ensures, ← c.if-is_empty.ensures) refl)

pub returns-else-is_empty : goal.returns-else-is_empty
returns-else-is_empty c = rw none_of-one (rw (← c.in_ok-one.ensures, ← c.if-is_empty.ensures) refl)
