use Rattle.device_meaning.specs.Judging.{interval_judge}
use Rattle.pushdown.proofs.Proved.{appended_by_runs_reads_back}
use Rattle.device_laws.proofs.Reached.{sound}
use Rattle.device_laws.proofs.laws.appended_by_runs_reads_back.Goals as goal

pub returns : goal.returns
returns c = appended_by_runs_reads_back interval_judge sound
