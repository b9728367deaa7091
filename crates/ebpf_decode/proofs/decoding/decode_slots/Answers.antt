use Rattle.std.proofs.Common.{◌≡◌, ◌∙◌, ◌/◌, ◌*◌, ◌++◌, [], ◌∷◌, drop, length, arith, sym}
use Rattle.ebpf_decode.specs.Reading.{slots_at, fields_at}
use Rattle.ebpf_decode.proofs.Slots.{ends, goes_on, is_done, length-slots, slots-get}
use Rattle.ebpf_decode.proofs.decoding.decode_slots.Goals as goal

pub returns-in-Err : goal.returns-in-Err
returns-in-Err c =
    let count = length c.args.bytes.now / 8 in
    ends (slots_at count c.args.bytes.now) c.loop-slot.slot (fields_at (drop (8 * c.loop-slot.slot) c.args.bytes.now)) c.loop-slot.second c.in-Err.kind _ _
    (slots-get count c.args.bytes.now c.loop-slot.slot c.loop-slot-test.true) (sym c.begun_at.ensures ∙ c.in-Err.is) c.loop-slot.invariant

pub loop-slot-preserved : goal.loop-slot-preserved
loop-slot-preserved c =
    let count = length c.args.bytes.now / 8 in
    let more = goes_on (slots_at count c.args.bytes.now) c.loop-slot.slot (fields_at (drop (8 * c.loop-slot.slot) c.args.bytes.now)) c.loop-slot.second c.in-Ok.begun _ _
    (slots-get count c.args.bytes.now c.loop-slot.slot c.loop-slot-test.true) (sym c.begun_at.ensures ∙ c.in-Ok.is) c.loop-slot.invariant in
    let items : c.extend_from_slice.new.self.items ≡ c.loop-slot.slots.items ++ c.in-Ok.begun ∷ [] = c.in_ok-extend_from_slice-in-Ok.ensures.items in
    rw (items, c.begins_wide-second.ensures) more

pub returns : goal.returns
returns c =
    let count = length c.args.bytes.now / 8 in
    is_done (slots_at count c.args.bytes.now) c.loop-slot.slot c.loop-slot.second _ _
    (omega (arith, length-slots count c.args.bytes.now)) c.loop-slot.invariant
