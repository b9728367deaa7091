use Rattle.std.proofs.Common.{◌∙◌, arith}
use Rattle.runner.proofs.Counts.{counted_there}
use Rattle.runner.proofs.DeviceTurns.{idles_there, last_there, more_there}
use Rattle.runner.proofs.turn.turn_place.Goals as goal

pub returns-in_default-clause-turned : goal.returns-in_default-clause-turned
returns-in_default-clause-turned g c = λ runs at ready.
    idles_there c.args.namespace.now c.args.slots.now runs c.args.run c.args.place.now ready at c.in_default.is

pub returns-in_default-advance_by_slot-clause-turned : goal.returns-in_default-advance_by_slot-clause-turned
returns-in_default-advance_by_slot-clause-turned g c = λ runs at ready.
    more_there c.args.namespace.now c.advance_by_slot.new.namespace c.args.slots.now c.args.run c.index-slot.result c.in-Some.active
    c.advance_by_slot.new.active c.index-slots-slot.result c.advance_by_slot.new.slot c.index-slot.ensures.value (omega arith) runs (at ∙ c.in-Some.is) ready
    c.in_default-advance_by_slot.ensures.turned

pub returns-clause-turned : goal.returns-clause-turned
returns-clause-turned g c = λ runs at ready.
    rw (c.complete-reply.ensures, c.free.ensures)
    (last_there c.args.namespace.now c.advance_by_slot.new.namespace c.args.slots.now c.args.run c.index-slot.result c.in-Some.active
    c.advance_by_slot.new.active c.index-slots-slot.result c.advance_by_slot.new.slot c.index-slot.ensures.value (omega arith) runs (at ∙ c.in-Some.is) ready
    c.in-Some-advance_by_slot.answer c.in-Some-advance_by_slot.ensures.turned)

pub returns-in_default-advance_by_slot-clause-counts : goal.returns-in_default-advance_by_slot-clause-counts
returns-in_default-advance_by_slot-clause-counts g c =
    counted_there c.args.namespace.now c.args.slots.now c.index-slot.result c.in-Some.active c.index-slots-slot.result c.advance_by_slot.new.slot
    c.index-slot.ensures.value (omega arith) c.advance_by_slot.ensures.counts c.args.place.now c.in-Some.is

pub returns-clause-counts : goal.returns-clause-counts
returns-clause-counts g c =
    counted_there c.args.namespace.now c.args.slots.now c.index-slot.result c.in-Some.active c.index-slots-slot.result c.advance_by_slot.new.slot
    c.index-slot.ensures.value (omega arith) c.advance_by_slot.ensures.counts c.args.place.now c.in-Some.is
