use Rattle.std.proofs.Common.{◌-◌, arith, drop, length, length-drop, length-take, take}
use Rattle.nvme_entry.specs.declared.program_slot.TheConstants.{PROGRAM_SLOTS}
use Rattle.kept_device.specs.Kept.{place_told, slot_told}
use Rattle.kept_device.specs.Sections.{place_in, slot_in}
use Rattle.durable_device.proofs.SectionLists.{as_many}
use Rattle.durable_device.proofs.sections.kept_in.Goals as goal

pub returns-clause-programs : goal.returns-clause-programs
returns-clause-programs c =
    let sections = c.args.sections.now in
    let many = as_many slot_in slot_told (take PROGRAM_SLOTS sections) c.in_ok-programs.programs.items c.in_ok-programs.ensures.spelled in
    omega (arith, many, length-take PROGRAM_SLOTS sections, c.requires)

pub returns-clause-runs : goal.returns-clause-runs
returns-clause-runs c =
    let sections = c.args.sections.now in
    let many = as_many place_in place_told (take (length sections - PROGRAM_SLOTS) (drop PROGRAM_SLOTS sections)) c.in_ok-runs.runs.items c.in_ok-runs.ensures.spelled in
    omega (arith, many, length-take (length sections - PROGRAM_SLOTS) (drop PROGRAM_SLOTS sections), length-drop PROGRAM_SLOTS sections, c.requires)
