use Rattle.kept_device.specs.Kept.{program_told}
use Rattle.kept_device.proofs.Sections.{program_reads}
use Rattle.kept_device.proofs.slots.program_section.Goals as goal

pub returns-in-Some-clause-read : goal.returns-in-Some-clause-read
returns-in-Some-clause-read c =
    rw c.in-Some.is (program_reads c.section_of.result (program_told c.in-Some.kept) c.section_of.ensures.spelled c.section_of.ensures.spellable)
