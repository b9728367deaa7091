use Rattle.ebpf_asm.proofs.NumbersReadBack.{immediate_again}
use Rattle.ebpf_asm.proofs.laws.immediates_read_back.Goals as goal

pub returns : goal.returns
returns c = immediate_again
