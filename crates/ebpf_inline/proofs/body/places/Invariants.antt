use Rattle.std.proofs.Common.{◌≡◌, ◌≤◌, ℕ, Ok, slice_index}
use Rattle.ebpf_inline.specs.Bodies.{place}
use Rattle.ebpf_inline.specs.Data.{first_ones}
use Rattle.ebpf_inline.specs.Sizes.{callee_slots, slots_at, slots_before}
use Rattle.program_interface.specs.declared.TheConstants.{MOST_SLOTS}
use Rattle.ebpf_inline.proofs.body.places.Given as goal

-- the places up to this slot
abbrev pub invariant-loop-slot : goal.invariant-loop-slot
invariant-loop-slot l =
    record {
      counted : slots_before (slots_at (callee_slots l.unit l.room l.frame) l.unit l.frame.function) l.slot ≡ Ok l.place;
      most : l.place ≤ MOST_SLOTS;
      are : l.places.items ≡ first_ones (place l.unit l.room l.frame) l.slot;
      few : (k : ℕ) → slice_index l.places.items k ≤ MOST_SLOTS;
    }
