use Rattle.device_laws.proofs.Restores.{runs_go_on_after_restores}
use Rattle.device_laws.proofs.laws.runs_go_on_after_restores.Goals as goal

pub returns : goal.returns
returns c = runs_go_on_after_restores
