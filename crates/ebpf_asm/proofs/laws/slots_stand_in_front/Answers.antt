use Rattle.ebpf_asm.proofs.SlotFronts.{slots_stand_in_front}
use Rattle.ebpf_asm.proofs.laws.slots_stand_in_front.Goals as goal

pub returns : goal.returns
returns c = slots_stand_in_front
