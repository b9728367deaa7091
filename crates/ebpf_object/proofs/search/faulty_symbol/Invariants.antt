use Rattle.ebpf_object.specs.First.{NoneHas}
use Rattle.ebpf_object.specs.Faults.{symbol_fault}
use Rattle.ebpf_object.proofs.search.faulty_symbol.Given as goal

abbrev pub invariant-loop-number : goal.invariant-loop-number
invariant-loop-number l = NoneHas (symbol_fault l.bytes l.symbols) l.number
