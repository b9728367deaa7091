use Rattle.device_meaning.specs.Judging.{judge_by}
use Rattle.device_meaning.proofs.JoinedEvents.{served_and_drained}
use Rattle.device_meaning.proofs.laws.served_and_drained.Goals as goal

pub returns : goal.returns
returns g c = served_and_drained (judge_by g.D.Domain.operations) g.O.Out.took g.met.O.Out.joins
