use Rattle.ebpf_asm.proofs.InOrder.{lines_are_in_order}
use Rattle.ebpf_asm.proofs.laws.lines_are_in_order.Goals as goal

pub returns : goal.returns
returns c = lines_are_in_order
