use Rattle.ebpf_asm.proofs.Operands.{one_at_end, one_before_more}
use Rattle.ebpf_asm.proofs.statement.one.Goals as goal

pub returns-in-None : goal.returns-in-None
returns-in-None c = one_at_end c.args.operands.now c.trim.result.now c.in-None.ensures c.trim.ensures

pub returns-in-Some : goal.returns-in-Some
returns-in-Some c = one_before_more c.args.operands.now _ _ c.in-Some.ensures
