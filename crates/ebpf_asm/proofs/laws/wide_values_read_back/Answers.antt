use Rattle.ebpf_asm.proofs.NumbersReadBack.{wide_again}
use Rattle.ebpf_asm.proofs.laws.wide_values_read_back.Goals as goal

pub returns : goal.returns
returns c = wide_again
