use Rattle.std.proofs.Common.{◌≡◌, Option, Some, None, IfSome, get_or, sym, ap, subst, ◌∙◌, arith}
use Rattle.std.proofs.lemmas.List.{get_or_default}
use Rattle.verifier.specs.Verified.{sizes_of}
use Rattle.device_meaning.specs.Judging.{judge_by}
use Rattle.kept_device.specs.Kept.{slot_told}
use Rattle.kept_device.specs.declared.kept.KeptProgram.{KeptProgram}
use Rattle.runner.specs.DeviceState.{loaded_slot}
use Rattle.runner.specs.Keeping.{slot_again}
use Rattle.runner.specs.Restored.{IsOfBytes}
use Rattle.runner.proofs.KeptPrograms.{one_more_again}
use Rattle.runner.proofs.kept_slots.slots_again.Goals as goal

pub loop-k-preserved : goal.loop-k-preserved
loop-k-preserved g c =
    let kept = c.args.kept.now in
    let k = c.loop-k.k in
    let here : c.index-kept-k.result ≡ get_or kept k None = c.index-kept-k.is ∙ get_or_default kept k c.index-kept-k.result None (omega arith) in
    let again : slot_again (judge_by g.D.Domain.operations) c.args.block (slot_told c.index-kept-k.result) ≡ Some (loaded_slot c.in-Some.slot) = rw c.in-Some.is at c.in_ok-slot.ensures.again in
    let sized : IfSome c.in-Some.slot (λ p. (sizes_of p.prepared).block ≡ c.args.block) = rw c.in-Some.is at c.in_ok-slot.ensures.sizes in
    one_more_again c.args.block kept c.loop-k.slots k c.in-Some.slot c.loop-k.invariant (omega arith)
    (ap (λ (o : Option KeptProgram). slot_again (judge_by g.D.Domain.operations) c.args.block (slot_told o)) (sym here) ∙ again) sized
    (subst (λ (o : Option KeptProgram). IfSome (slot_told o) IsOfBytes) here c.in_ok-slot.ensures.bytes)
