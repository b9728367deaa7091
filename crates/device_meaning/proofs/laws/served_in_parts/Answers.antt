use Rattle.device_meaning.specs.Judging.{judge_by}
use Rattle.device_meaning.proofs.JoinedEvents.{served_in_parts}
use Rattle.device_meaning.proofs.laws.served_in_parts.Goals as goal

pub returns : goal.returns
returns g c = served_in_parts (judge_by g.D.Domain.operations) g.O.Out.took g.met.O.Out.joins
