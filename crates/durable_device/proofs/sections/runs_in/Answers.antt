use Rattle.std.proofs.Common.{rules, ◌≡◌, None, IsErrOf, arith}
use Rattle.kept_device.specs.Sections.{place_in}
use Rattle.kept_device.specs.declared.fault.SectionFault.TheVariants.{Damaged}
use Rattle.durable_device.proofs.SectionLists.{none_spelled}
use Rattle.durable_device.proofs.sections.runs_in.Goals as goal

pub returns-in_err-read_run-clause-damaged : goal.returns-in_err-read_run-clause-damaged
returns-in_err-read_run-clause-damaged c = λ damaged runs spelled.
    let is : IsErrOf c.read_run.result Damaged = search (rules, damaged) in
    let none : place_in c.section-item.result.items ≡ None = search (rules, is) in
    none_spelled place_in c.args.sections.now c.loop-section.section-index c.section-item.result c.section-item.result (omega arith) c.section-item.is none runs
    spelled
