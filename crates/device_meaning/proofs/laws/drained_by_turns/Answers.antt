use Rattle.device_meaning.specs.Judging.{judge_by}
use Rattle.device_meaning.proofs.JoinedEvents.{drained_by_turns}
use Rattle.device_meaning.proofs.laws.drained_by_turns.Goals as goal

pub returns : goal.returns
returns g c = drained_by_turns (judge_by g.D.Domain.operations)
