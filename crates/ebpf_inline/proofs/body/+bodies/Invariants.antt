use Rattle.std.specs.Prelude.{◌≡◌, ◌+◌, ◌*◌, ◌++◌}
use Rattle.ebpf_inline.specs.Bodies.{callee_part, parts_before, slot_part}
use Rattle.ebpf_inline.proofs.body.+bodies.Given as goal

abbrev pub decreases-push_slot : goal.decreases-push_slot
decreases-push_slot l = 3 * l.frame.depth + 2

abbrev pub decreases-push_call : goal.decreases-push_call
decreases-push_call l = 3 * l.frame.depth + 1

abbrev pub decreases-push_body : goal.decreases-push_body
decreases-push_body l = 3 * l.frame.depth

-- the slots before this one are pushed
abbrev pub invariant-push_body-loop-slot : goal.invariant-push_body-loop-slot
invariant-push_body-loop-slot l =
    l.into.items ≡ l.initial.into.items ++ parts_before (slot_part (callee_part l.unit l.room l.here) l.unit l.room l.here l.is_called) l.slot
