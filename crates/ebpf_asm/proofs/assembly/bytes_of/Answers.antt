use Rattle.std.proofs.Common.{rules}
use Rattle.ebpf_asm.specs.steps.Labels.{label_in}
use Rattle.ebpf_asm.proofs.Passes.{made_nothing, made_more, made_fault}
use Rattle.ebpf_asm.proofs.assembly.bytes_of.Goals as goal
use Rattle.ebpf_asm.proofs.assembly.bytes_of.Goals.{in_default-via-in-Ok+in_default, in_default-via-in_default}

pub loop-index-preserved-in_default : goal.loop-index-preserved-in_default
loop-index-preserved-in_default c =
    made_nothing c.args.lines.now c.loop-index.index c.index-lines-index.result (label_in c.args.labels.now) c.loop-index.slot c.loop-index.bytes.items c.loop-index-test.true c.index-lines-index.is
    (elim c.in_default.branch [ in_default-via-in-Ok+in_default w ↦ (λ instruction e. search rules) | in_default-via-in_default w ↦ (λ instruction e. search rules) ]) c.loop-index.invariant

pub returns-in-Err : goal.returns-in-Err
returns-in-Err c =
    rw c.fault_at.ensures (made_fault c.args.lines.now c.loop-index.index c.index-lines-index.result (label_in c.args.labels.now) c.loop-index.slot c.loop-index.bytes.items c.in-Ok-Some.instruction c.in-Err.kind c.loop-index-test.true c.index-lines-index.is
    (search rules) c.in-Err.ensures c.loop-index.invariant)

pub loop-index-preserved : goal.loop-index-preserved
loop-index-preserved c =
    made_more c.args.lines.now c.loop-index.index c.index-lines-index.result (label_in c.args.labels.now) c.loop-index.slot c.slots_of-slot.result c.loop-index.bytes.items c.push_instruction.new.bytes.items c.in-Ok-Some.instruction c.in-Ok.instruction
    c.loop-index-test.true c.index-lines-index.is (search rules) c.in-Ok.ensures c.in_ok-push_instruction.ensures.added c.slots_of-slot.ensures c.loop-index.invariant
