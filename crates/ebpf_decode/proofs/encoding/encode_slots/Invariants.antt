use Rattle.std.proofs.Common.{◌≡◌, ◌++◌, drop}
use Rattle.instruction_set.specs.Spelling.{program_bytes}
use Rattle.ebpf_decode.proofs.encoding.encode_slots.Given as goal

abbrev pub invariant-loop-slot : goal.invariant-loop-slot
invariant-loop-slot l = l.bytes.items ++ program_bytes (drop l.slot-index l.slots) ≡ program_bytes l.slots
