use Rattle.device_meaning.specs.Judging.{judge_by}
use Rattle.device_meaning.proofs.KeptForRuns.{events_keep_for_runs}
use Rattle.device_meaning.proofs.laws.events_keep_for_runs.Goals as goal

pub returns : goal.returns
returns g c = events_keep_for_runs (judge_by g.D.Domain.operations)
