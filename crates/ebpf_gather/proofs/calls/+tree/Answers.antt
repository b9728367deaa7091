use Rattle.std.proofs.Common.{◌≡◌, ◌∙◌, ◌+◌, ◌-◌, ℕ, suc, zero, Ok, Err, arith, subst, sym, rules}
use Rattle.ebpf_gather.specs.CallTrees.{slots_at, slots_before, tree_slots}
use Rattle.ebpf_gather.specs.declared.fault.CallFault.TheVariants as faults
use Rattle.ebpf_gather.proofs.CallTrees.{fault_stays, one_more, one_wrong, tree_ends, tree_is}
use Rattle.ebpf_gather.proofs.calls.+tree.Goals as goal

pub body_slots-returns-in_err-called-clause-value : goal.body_slots-returns-in_err-called-clause-value
body_slots-returns-in_err-called-clause-value t c =
    let bytes = c.args.object.now.bytes.now in
    let symbols = c.args.object.now.symbols in
    let at = slots_at (tree_slots bytes symbols c.args.depth) bytes symbols c.args.function in
    let fault = c.in_err-called.field-0.0 in
    let here : at c.loop-slot.slot ≡ Err fault = sym c.in_err-called.ensures.value in
    let wrong : slots_before at c.args.function.slots ≡ Err fault
    = fault_stays at c.loop-slot.slot c.args.function.slots fault
    (one_wrong at c.loop-slot.slot c.loop-slot.slots fault c.loop-slot.invariant.counted here) c.loop-slot-test.true in
    search (rules, wrong)

pub body_slots-returns-in_err-slots-clause-value : goal.body_slots-returns-in_err-slots-clause-value
body_slots-returns-in_err-slots-clause-value t c =
    let bytes = c.args.object.now.bytes.now in
    let symbols = c.args.object.now.symbols in
    let at = slots_at (tree_slots bytes symbols c.args.depth) bytes symbols c.args.function in
    let fault = c.in_err-slots.field-0.0 in
    let here : at c.loop-slot.slot ≡ Ok c.in_ok-called.called = sym c.in_ok-called.ensures.value in
    let more = one_more at c.loop-slot.slot c.loop-slot.slots c.in_ok-called.called c.loop-slot.invariant.counted here in
    let wrong : slots_before at c.args.function.slots ≡ Err fault
    = fault_stays at c.loop-slot.slot c.args.function.slots fault (more ∙ sym c.in_err-slots.ensures.value) c.loop-slot-test.true in
    search (rules, wrong)

pub body_slots-loop-slot-preserved : goal.body_slots-loop-slot-preserved
body_slots-loop-slot-preserved t c =
    let bytes = c.args.object.now.bytes.now in
    let symbols = c.args.object.now.symbols in
    let at = slots_at (tree_slots bytes symbols c.args.depth) bytes symbols c.args.function in
    let here : at c.loop-slot.slot ≡ Ok c.in_ok-called.called = sym c.in_ok-called.ensures.value in
    let more = one_more at c.loop-slot.slot c.loop-slot.slots c.in_ok-called.called c.loop-slot.invariant.counted here in
    let next : suc c.loop-slot.slot ≡ c.loop-slot.slot + 1 = omega arith in
    record {
      counted = subst (λ (n : ℕ). slots_before at n ≡ Ok c.in_ok-slots.slots) next (more ∙ sym c.in_ok-slots.ensures.value);
      few = c.in_ok-slots.ensures.few;
    }

pub body_slots-returns-clause-value : goal.body_slots-returns-clause-value
body_slots-returns-clause-value t c =
    let bytes = c.args.object.now.bytes.now in
    let symbols = c.args.object.now.symbols in
    let at = slots_at (tree_slots bytes symbols c.args.depth) bytes symbols c.args.function in
    let ended : c.loop-slot.slot ≡ c.args.function.slots = omega (arith, c.loop-slot-test.false, c.loop-slot.auto.slot-end) in
    sym (subst (λ (n : ℕ). slots_before at n ≡ Ok c.loop-slot.slots) ended c.loop-slot.invariant.counted)

pub tree_slots-returns-then-depth-eq0-clause-value : goal.tree_slots-returns-then-depth-eq0-clause-value
tree_slots-returns-then-depth-eq0-clause-value t c =
    let bytes = c.args.object.now.bytes.now in
    let symbols = c.args.object.now.symbols in
    let none : zero ≡ c.args.depth = omega (arith, c.if-depth-eq0.true) in
    sym (subst (λ (n : ℕ). tree_slots bytes symbols n c.args.function ≡ Err (faults.TooDeep c.args.function)) none
    (tree_ends bytes symbols c.args.function))

pub tree_slots-returns-clause-value : goal.tree_slots-returns-clause-value
tree_slots-returns-clause-value t c =
    let bytes = c.args.object.now.bytes.now in
    let symbols = c.args.object.now.symbols in
    let less = c.args.depth - 1 in
    let more : suc less ≡ c.args.depth = omega (arith, c.if-depth-eq0.false) in
    let whole : tree_slots bytes symbols (suc less) c.args.function ≡ c.body_slots.result
    = tree_is bytes symbols less c.args.function ∙ sym c.body_slots.ensures.value in
    sym (subst (λ (n : ℕ). tree_slots bytes symbols n c.args.function ≡ c.body_slots.result) more whole)
