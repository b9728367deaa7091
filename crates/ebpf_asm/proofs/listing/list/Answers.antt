use Rattle.std.proofs.Common.{◌<◌, ◌++◌, length, ap, sym, ◌∙◌, arith}
use Rattle.ebpf_asm.specs.steps.Listed.{listed_line}
use Rattle.ebpf_asm.proofs.SlotListings.{listed-instruction, listed-no_instruction}
use Rattle.ebpf_asm.proofs.listing.list.Goals as goal

pub loop-slot-preserved-in_default : goal.loop-slot-preserved-in_default
loop-slot-preserved-in_default c =
    let lt : c.loop-slot.slot < length c.args.program.now = omega arith in
    c.loop-slot.invariant ∙ sym (listed-no_instruction c.args.slots c.args.program.now c.loop-slot.slot lt c.in_default.ensures.value)

pub loop-slot-preserved : goal.loop-slot-preserved
loop-slot-preserved c =
    let lt : c.loop-slot.slot < length c.args.program.now = omega arith in
    c.in_ok-push_listed.ensures ∙ ap (λ t. t ++ listed_line c.args.slots c.loop-slot.slot c.in-Some.instruction.now) c.loop-slot.invariant ∙ sym (listed-instruction c.args.slots c.args.program.now c.loop-slot.slot c.in-Some.instruction.now lt c.in-Some.ensures.value)
