use Rattle.device_meaning.specs.Judging.{judge_by}
use Rattle.pushdown.proofs.RunsRead.{appended_by_runs_reads_back}
use Rattle.pushdown.proofs.laws.appended_by_runs_reads_back.Goals as goal

pub returns : goal.returns
returns g c = appended_by_runs_reads_back (judge_by g.D.Domain.operations) c.domains_judge_soundly.ensures
