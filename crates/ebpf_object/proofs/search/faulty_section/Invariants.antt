use Rattle.ebpf_object.specs.First.{NoneHas}
use Rattle.ebpf_object.specs.Faults.{section_fault}
use Rattle.ebpf_object.proofs.search.faulty_section.Given as goal

abbrev pub invariant-loop-number : goal.invariant-loop-number
invariant-loop-number l = NoneHas (section_fault l.bytes l.symbols) l.number
