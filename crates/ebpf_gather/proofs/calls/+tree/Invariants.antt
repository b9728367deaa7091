use Rattle.std.specs.Prelude.{◌≡◌, ◌≤◌, ◌+◌, ◌*◌, Ok}
use Rattle.ebpf_gather.specs.CallTrees.{slots_at, slots_before, tree_slots}
use Rattle.program_interface.specs.declared.TheConstants.{MOST_SLOTS}
use Rattle.ebpf_gather.proofs.calls.+tree.Given as goal

abbrev pub decreases-body_slots : goal.decreases-body_slots
decreases-body_slots l = 3 * l.depth + 2

abbrev pub decreases-slots_at : goal.decreases-slots_at
decreases-slots_at l = 3 * l.depth + 1

abbrev pub decreases-tree_slots : goal.decreases-tree_slots
decreases-tree_slots l = 3 * l.depth

-- the slots before this one are counted
abbrev pub invariant-body_slots-loop-slot : goal.invariant-body_slots-loop-slot
invariant-body_slots-loop-slot l =
    let bytes = l.object.bytes.now in
    let symbols = l.object.symbols in
    record {
      counted : slots_before (slots_at (tree_slots bytes symbols l.depth) bytes symbols l.function) l.slot ≡ Ok l.slots;
      few : l.slots ≤ MOST_SLOTS;
    }
