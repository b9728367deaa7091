use Rattle.std.proofs.Common.{arith}
use Rattle.image_base.proofs.SectionLemmas.{one_added}
use Rattle.image_base.proofs.sections.add_sections.Goals as goal

pub loop-section-preserved : goal.loop-section-preserved
loop-section-preserved c =
    one_added c.args.sections.now c.loop-section.section-index c.section-item.result c.section-item.result c.as_slice.result.now c.args.base.now.items
    c.loop-section.base.items c.add_event.new.events.items c.loop-section.invariant (omega arith) c.section-item.is c.as_slice.ensures.value
    c.in_ok-add_event.ensures.added c.in_ok-add_event.ensures.sized
