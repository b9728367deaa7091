use Rattle.kept_device.proofs.Sections.{programs_read_back, runs_read_back}
use Rattle.kept_device.proofs.laws.sections_read_back.Goals as goal

pub returns-clause-programs : goal.returns-clause-programs
returns-clause-programs c = programs_read_back

pub returns-clause-runs : goal.returns-clause-runs
returns-clause-runs c = runs_read_back
