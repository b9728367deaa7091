-- Laws of this crate, proved, and lemmas: all that the proofs of other crates cite of it.
use Rattle.ebpf_decode.specs.Laws.{DecodedIsSpelled, FaultIsInside}
pub use Rattle.ebpf_decode.proofs.Bytes.{fits-32}
use Rattle.ebpf_decode.proofs.FaultSlots as fault_slots
use Rattle.ebpf_decode.proofs.Programs.{decoded-program}
pub use Rattle.ebpf_decode.proofs.Programs.{instructions_of-slots_of}

pub decoded_is_spelled : DecodedIsSpelled
decoded_is_spelled = decoded-program

pub fault_is_inside : FaultIsInside
fault_is_inside = fault_slots.fault_is_inside
