use Rattle.ebpf_decode.proofs.Slots.{length-slots, slots-get}
use Rattle.std.proofs.Common.{◌≡◌, ◌∙◌, ◌*◌, ◌/◌, sym, ap, drop, length, arith, Some}
use Rattle.ebpf_decode.specs.Reading.{fields_at, slots_at}
use Rattle.std.proofs.lemmas.Grind.{common_steps}
use Rattle.std.proofs.lemmas.Option.{slice_get_past}
use Rattle.ebpf_decode.proofs.decoding.slot_at.Goals as goal

pub returns-then-slot-bytes : goal.returns-then-slot-bytes
returns-then-slot-bytes c =
    let read : c.from_bytes.result ≡ fields_at (drop (8 * c.args.slot) c.args.bytes.now) = grind (arith, common_steps) in
    ap (λ f. Some f) read ∙ sym (slots-get _ c.args.bytes.now c.args.slot (omega arith))

pub returns-else-slot-bytes : goal.returns-else-slot-bytes
returns-else-slot-bytes c =
    let count = length c.args.bytes.now / 8 in
    sym (slice_get_past (slots_at count c.args.bytes.now) c.args.slot (omega (arith, length-slots count c.args.bytes.now)))
