use Rattle.std.proofs.Common.{◌≡◌, ◌<◌, ℕ, None, IfSome, get_or, map, take}
use Rattle.kept_device.specs.Kept.{slot_told}
use Rattle.runner.specs.Keeping.{KeepsAgain, saved_slot}
use Rattle.runner.proofs.kept_slots.kept_slots.Given as goal

abbrev pub invariant-loop-slot : goal.invariant-loop-slot
invariant-loop-slot g l = record {
  told : map slot_told l.kept.items ≡ map saved_slot (take l.slot-index l.slots);
  again : (k : ℕ) → k < l.slot-index → IfSome (get_or l.slots k None) KeepsAgain;
}
