use Rattle.ebpf_decode.proofs.FaultSlots.{fault_is_inside}
use Rattle.ebpf_decode.proofs.laws.fault_is_inside.Goals as goal

pub returns : goal.returns
returns c = fault_is_inside
