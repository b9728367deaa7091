use Rattle.std.proofs.Common.{◌≡◌, ◌∙◌, ◌<◌, ◌-◌, ℕ, suc, zero, length, None, Ok, Err, arith, subst, sym, rules}
use Rattle.common_definitions.specs.Checks.{first_failed}
use Rattle.ebpf_inline.specs.Sizes.{body_slots, callee_slots, frame_checks, slots_at, slots_before, tree_slots, within}
use Rattle.ebpf_inline.specs.Units.{slots_of}
use Rattle.ebpf_inline.specs.declared.unit_fault.UnitFault.TheVariants as faults
use Rattle.ebpf_inline.proofs.UnitCounts.{fault_stays, one_more, one_wrong, tree_ends, tree_has_none, tree_is}
use Rattle.ebpf_inline.proofs.sizes.+sizes.Goals as goal

pub body_slots-returns-in_err-here-clause-value : goal.body_slots-returns-in_err-here-clause-value
body_slots-returns-in_err-here-clause-value t c =
    let unit = c.args.unit.now in
    let at = slots_at (callee_slots unit c.args.room c.args.frame) unit c.args.frame.function in
    let fault = c.in_err-here.field-0.0 in
    let here : at c.loop-slot.slot ≡ Err fault = sym c.in_err-here.ensures.value in
    let count = length (slots_of unit c.args.frame.function) in
    let below : c.loop-slot.slot < count = search rules in
    let wrong : slots_before at count ≡ Err fault
    = fault_stays at c.loop-slot.slot count fault
    (one_wrong at c.loop-slot.slot c.loop-slot.slots fault c.loop-slot.invariant.counted here) below in
    search (rules, wrong)

pub body_slots-returns-in_err-slots-clause-value : goal.body_slots-returns-in_err-slots-clause-value
body_slots-returns-in_err-slots-clause-value t c =
    let unit = c.args.unit.now in
    let at = slots_at (callee_slots unit c.args.room c.args.frame) unit c.args.frame.function in
    let fault = c.in_err-slots.field-0.0 in
    let here : at c.loop-slot.slot ≡ Ok c.in_ok-here.here = sym c.in_ok-here.ensures.value in
    let count = length (slots_of unit c.args.frame.function) in
    let below : c.loop-slot.slot < count = search rules in
    let more = one_more at c.loop-slot.slot c.loop-slot.slots c.in_ok-here.here c.loop-slot.invariant.counted here in
    let wrong : slots_before at count ≡ Err fault
    = fault_stays at c.loop-slot.slot count fault (more ∙ sym c.in_err-slots.ensures.value) below in
    search (rules, wrong)

pub tree_slots-returns-then-frame-eq0-clause-value : goal.tree_slots-returns-then-frame-eq0-clause-value
tree_slots-returns-then-frame-eq0-clause-value t c =
    let unit = c.args.unit.now in
    let frame = c.args.frame in
    let none : zero ≡ frame.depth = omega (arith, c.if-frame-eq0.true) in
    sym (subst (λ (n : ℕ). tree_slots unit c.args.room n frame ≡ Err (faults.TooDeep frame.function)) none (tree_ends unit c.args.room frame))

pub tree_slots-returns-in-Some-clause-value : goal.tree_slots-returns-in-Some-clause-value
tree_slots-returns-in-Some-clause-value t c =
    let unit = c.args.unit.now in
    let frame = c.args.frame in
    let less = frame.depth - 1 in
    let more : suc less ≡ frame.depth = omega (arith, c.if-frame-eq0.false) in
    sym (subst (λ (n : ℕ). tree_slots unit c.args.room n frame ≡ Err c.in-Some.fault) more
    (tree_has_none unit c.args.room frame less c.in-Some.fault (sym c.in-Some.ensures)))

pub tree_slots-returns-clause-value : goal.tree_slots-returns-clause-value
tree_slots-returns-clause-value t c =
    let unit = c.args.unit.now in
    let room = c.args.room in
    let frame = c.args.frame in
    let less = frame.depth - 1 in
    let more : suc less ≡ frame.depth = omega (arith, c.if-frame-eq0.false) in
    let none : first_failed (frame_checks unit room frame) ≡ None = search rules in
    let here : c.body_slots.result ≡ body_slots (callee_slots unit room (within frame less)) unit frame.function = search rules in
    sym (subst (λ (n : ℕ). tree_slots unit room n frame ≡ c.body_slots.result) more (tree_is unit room frame less none ∙ sym here))
