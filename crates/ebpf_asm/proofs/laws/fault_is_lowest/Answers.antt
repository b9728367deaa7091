use Rattle.ebpf_asm.proofs.LowestFaults.{fault_is_lowest}
use Rattle.ebpf_asm.proofs.laws.fault_is_lowest.Goals as goal

pub returns : goal.returns
returns c = fault_is_lowest
