use Rattle.device_meaning.specs.Judging.{interval_judge}
use Rattle.device_laws.proofs.Tenants.{respect_keeps_runs_apart}
use Rattle.device_laws.proofs.laws.respect_keeps_runs_apart.Goals as goal

pub returns : goal.returns
returns c = respect_keeps_runs_apart interval_judge
