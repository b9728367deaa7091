use Rattle.std.proofs.Common.{rules, ◌≡◌, None, IsErrOf, arith}
use Rattle.kept_device.specs.Sections.{slot_in}
use Rattle.kept_device.specs.declared.fault.SectionFault.TheVariants.{Damaged}
use Rattle.durable_device.proofs.SectionLists.{none_spelled}
use Rattle.durable_device.proofs.sections.programs_in.Goals as goal

pub returns-in_err-read_program-clause-damaged : goal.returns-in_err-read_program-clause-damaged
returns-in_err-read_program-clause-damaged c = λ damaged programs spelled.
    let is : IsErrOf c.read_program.result Damaged = search (rules, damaged) in
    let none : slot_in c.section-item.result.items ≡ None = search (rules, is) in
    none_spelled slot_in c.args.sections.now c.loop-section.section-index c.section-item.result c.section-item.result (omega arith) c.section-item.is none programs
    spelled
