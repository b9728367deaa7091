use Rattle.ebpf_object.specs.Objects.{NoRelocationHas}
use Rattle.ebpf_object.proofs.search.faulty_relocation.Given as goal

abbrev pub invariant-loop-number : goal.invariant-loop-number
invariant-loop-number l = NoRelocationHas l.bytes l.symbols l.number
