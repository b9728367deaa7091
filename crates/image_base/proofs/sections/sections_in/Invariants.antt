use Rattle.std.proofs.Common.{◌-◌, length}
use Rattle.durable_machine.specs.Batches.{bytes_of}
use Rattle.image_base.proofs.SectionLemmas.{AreRead}
use Rattle.image_base.proofs.sections.sections_in.Given as goal

abbrev pub invariant-loop-alloc : goal.invariant-loop-alloc
invariant-loop-alloc l = AreRead (bytes_of l.sections.items) l.rest l.bytes

abbrev pub decreases-loop-alloc : goal.decreases-loop-alloc
decreases-loop-alloc l = 16 - length l.sections.items
