use Rattle.device_meaning.specs.Judging.{judge_by}
use Rattle.pushdown.proofs.Results.{results_read_back}
use Rattle.pushdown.proofs.laws.results_read_back.Goals as goal

pub returns : goal.returns
returns g c = results_read_back (judge_by g.D.Domain.operations) c.domains_judge_soundly.ensures
