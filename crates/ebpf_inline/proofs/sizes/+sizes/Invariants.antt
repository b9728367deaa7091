use Rattle.std.specs.Prelude.{◌≡◌, ◌≤◌, ◌+◌, ◌*◌, Ok}
use Rattle.ebpf_inline.specs.Sizes.{callee_slots, slots_at, slots_before}
use Rattle.program_interface.specs.declared.TheConstants.{MOST_SLOTS}
use Rattle.ebpf_inline.proofs.sizes.+sizes.Given as goal

abbrev pub decreases-body_slots : goal.decreases-body_slots
decreases-body_slots l = 4 * l.frame.depth + 3

abbrev pub decreases-slots_at : goal.decreases-slots_at
decreases-slots_at l = 4 * l.frame.depth + 2

abbrev pub decreases-call_slots : goal.decreases-call_slots
decreases-call_slots l = 4 * l.frame.depth + 1

abbrev pub decreases-tree_slots : goal.decreases-tree_slots
decreases-tree_slots l = 4 * l.frame.depth

-- the slots before this one are counted
abbrev pub invariant-body_slots-loop-slot : goal.invariant-body_slots-loop-slot
invariant-body_slots-loop-slot l =
    record {
      counted : slots_before (slots_at (callee_slots l.unit l.room l.frame) l.unit l.frame.function) l.slot ≡ Ok l.slots;
      few : l.slots ≤ MOST_SLOTS;
    }
