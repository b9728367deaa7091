use Rattle.std.proofs.lemmas.Result.{err_from_is_err_and}
use Rattle.ebpf_asm.proofs.Operands.{two_at_end, two_before_more}
use Rattle.ebpf_asm.proofs.statement.two.Goals as goal

pub returns-in_default : goal.returns-in_default
returns-in_default c = two_at_end c.args.operands.now c.in_default.ensures

pub returns-in_err-one : goal.returns-in_err-one
returns-in_err-one c =
    let p = err_from_is_err_and c.from_residual.result c.from_residual.ensures.1 in
    rw (p.1, p.2) (two_before_more c.args.operands.now c.in-Some.first.now c.in-Some.rest.now _ _ c.in-Some.ensures c.trim.ensures c.in_err-one.ensures)

pub returns : goal.returns
returns c = two_before_more c.args.operands.now c.in-Some.first.now c.in-Some.rest.now _ _ c.in-Some.ensures c.trim.ensures c.in_ok-one.ensures
