use Rattle.device_meaning.specs.Judging.{judge_by}
use Rattle.device_meaning.proofs.JoinedEvents.{events_in_parts}
use Rattle.device_meaning.proofs.laws.events_in_parts.Goals as goal

pub returns : goal.returns
returns g c = events_in_parts (judge_by g.D.Domain.operations)
