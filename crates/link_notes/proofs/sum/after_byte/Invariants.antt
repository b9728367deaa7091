use Rattle.std.proofs.Common.{◌≡◌, ◌-◌, ◌<◌}
use Rattle.link_notes.specs.Sum.{after_bits}
use Rattle.link_notes.proofs.sum.after_byte.Given as goal

abbrev pub invariant-loop-bit : goal.invariant-loop-bit
invariant-loop-bit l = after_bits (8 - l._bit) l.left ≡ after_bits 8 l.initial.left
