use Rattle.std.proofs.Common.{◌≡◌, take}
use Rattle.std.specs.String.{string_bytes}
use Rattle.ebpf_asm.specs.steps.Listed.{listed}
use Rattle.ebpf_asm.proofs.listing.list.Given as goal

abbrev pub invariant-loop-slot : goal.invariant-loop-slot
invariant-loop-slot l = string_bytes l.text ≡ listed l.slots (take l.slot l.program)
