use Rattle.ebpf_object.specs.First.{NoneHas}
use Rattle.ebpf_object.specs.Objects.{symbol_table_at}
use Rattle.ebpf_object.proofs.search.symbol_table.Given as goal

abbrev pub invariant-loop-number : goal.invariant-loop-number
invariant-loop-number l = NoneHas (symbol_table_at l.bytes) l.number
