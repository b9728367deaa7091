use Rattle.image_base.proofs.SectionLemmas.{AreAdded}
use Rattle.image_base.proofs.sections.add_sections.Given as goal

abbrev pub invariant-loop-section : goal.invariant-loop-section
invariant-loop-section l = AreAdded l.sections l.section-index l.fn.base.items l.base.items
