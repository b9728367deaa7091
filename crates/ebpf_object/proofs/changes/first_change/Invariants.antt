use Rattle.ebpf_object.specs.Functions.{NoChange}
use Rattle.ebpf_object.proofs.changes.first_change.Given as goal

abbrev pub invariant-loop-of : goal.invariant-loop-of
invariant-loop-of l = NoChange l.object.bytes.now l.section l.byte l.of
