use Rattle.ebpf_decode.proofs.FirstFaults.{fault_is_first}
use Rattle.ebpf_decode.proofs.laws.fault_is_first.Goals as goal

pub returns : goal.returns
returns c = fault_is_first
