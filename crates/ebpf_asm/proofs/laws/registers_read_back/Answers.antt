use Rattle.ebpf_asm.proofs.NumbersReadBack.{register_again}
use Rattle.ebpf_asm.proofs.laws.registers_read_back.Goals as goal

pub returns : goal.returns
returns c = register_again
