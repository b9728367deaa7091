use Rattle.std.proofs.Common.{refl}
use Rattle.std.proofs.lemmas.Result.{err_from_is_err_and}
use Rattle.ebpf_asm.proofs.Operands.{three_at_end, three_before_more}
use Rattle.ebpf_asm.proofs.statement.three.Goals as goal

pub returns-in_default : goal.returns-in_default
returns-in_default c = three_at_end c.args.operands.now c.in_default.ensures

pub returns-in_err-second : goal.returns-in_err-second
returns-in_err-second c =
    let p = err_from_is_err_and c.from_residual.result c.from_residual.ensures.1 in
    rw (p.1, p.2) (three_before_more c.args.operands.now c.in-Some.first.now c.in-Some.rest.now _ _ c.in-Some.ensures refl c.in_err-second.ensures)

pub returns : goal.returns
returns c = three_before_more c.args.operands.now c.in-Some.first.now c.in-Some.rest.now _ _ c.in-Some.ensures c.trim.ensures c.in_ok-second.ensures
