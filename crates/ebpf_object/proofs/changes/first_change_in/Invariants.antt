use Rattle.ebpf_object.specs.First.{NoneHas}
use Rattle.ebpf_object.specs.Functions.{change_at}
use Rattle.ebpf_object.proofs.changes.first_change_in.Given as goal

abbrev pub invariant-loop-number : goal.invariant-loop-number
invariant-loop-number l = NoneHas (change_at l.object.bytes.now l.byte l.of) l.number
