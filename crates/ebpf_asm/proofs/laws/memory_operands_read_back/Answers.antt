use Rattle.ebpf_asm.proofs.OperandsReadBack.{memory_again}
use Rattle.ebpf_asm.proofs.laws.memory_operands_read_back.Goals as goal

pub returns : goal.returns
returns c = memory_again
