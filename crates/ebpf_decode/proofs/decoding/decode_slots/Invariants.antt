use Rattle.std.proofs.Common.{◌≡◌, ◌/◌, false, drop, length}
use Rattle.ebpf_decode.specs.Reading.{read_slots, slots_at}
use Rattle.common_definitions.specs.Readings.{with_front}
use Rattle.ebpf_decode.proofs.decoding.decode_slots.Given as goal

abbrev pub invariant-loop-slot : goal.invariant-loop-slot
invariant-loop-slot l =
    let fields = slots_at (length l.bytes / 8) l.bytes in
    with_front l.slots.items (read_slots l.second l.slot (drop l.slot fields)) ≡ read_slots false 0 fields
