use Rattle.ebpf_asm.proofs.OperandsReadBack.{long_distance_again, short_distance_again}
use Rattle.ebpf_asm.proofs.laws.distances_read_back.Goals as goal

pub returns-clause-short : goal.returns-clause-short
returns-clause-short c = short_distance_again

pub returns-clause-long : goal.returns-clause-long
returns-clause-long c = long_distance_again
