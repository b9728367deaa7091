use Rattle.kept_device.proofs.Sections.{place_read}
use Rattle.kept_device.proofs.places.read_run.Goals as goal

pub returns-clause-read : goal.returns-clause-read
returns-clause-read c =
    place_read c.args.section.now c.entry_in-entry.result c.in-Some.command _ c.if-section.false c.entry_in-entry.ensures c.in-Some.ensures c.run_in.ensures
