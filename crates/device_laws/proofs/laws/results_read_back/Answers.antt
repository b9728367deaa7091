use Rattle.device_meaning.specs.Judging.{interval_judge}
use Rattle.pushdown.proofs.Proved.{results_read_back}
use Rattle.device_laws.proofs.Reached.{sound}
use Rattle.device_laws.proofs.laws.results_read_back.Goals as goal

pub returns : goal.returns
returns c = results_read_back interval_judge sound
