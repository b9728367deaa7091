use Rattle.ebpf_object.specs.First.{NoneHas}
use Rattle.ebpf_object.specs.Faults.{relocation_fault}
use Rattle.ebpf_object.proofs.search.faulty_relocation_in.Given as goal

abbrev pub invariant-loop-number : goal.invariant-loop-number
invariant-loop-number l = NoneHas (relocation_fault l.bytes l.symbols l.section) l.number
