use Rattle.ebpf_asm.specs.steps.Labels.{label_in}
use Rattle.ebpf_asm.proofs.Passes.{read_fault, read_more}
use Rattle.ebpf_asm.proofs.assembly.labels_of.Goals as goal

pub returns-in-Some-clause-fault : goal.returns-in-Some-clause-fault
returns-in-Some-clause-fault c =
    rw c.fault_at.ensures (read_fault c.args.lines.now c.loop-index.index c.index-lines-index.result c.is_defined-twice.result c.in-Some.kind (label_in c.loop-index.labels) c.loop-index.slots c.loop-index-test.true c.index-lines-index.is
    c.loop-index.invariant c.is_defined-twice.ensures c.in-Some.ensures)

pub loop-index-preserved : goal.loop-index-preserved
loop-index-preserved c =
    read_more c.args.lines.now c.loop-index.index c.index-lines-index.result c.is_defined-twice.result c.fault_of.result (label_in c.loop-index.labels) (label_in c.define.new.labels) c.loop-index.slots c.slots_of-slots.result
    c.loop-index-test.true c.index-lines-index.is c.loop-index.invariant c.is_defined-twice.ensures c.fault_of.ensures c.in_default.is c.in_ok-define.ensures c.slots_of-slots.ensures
