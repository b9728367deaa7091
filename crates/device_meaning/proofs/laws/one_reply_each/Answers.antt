use Rattle.device_meaning.specs.Judging.{judge_by}
use Rattle.device_meaning.proofs.JoinedEvents.{one_reply_each}
use Rattle.device_meaning.proofs.laws.one_reply_each.Goals as goal

pub returns : goal.returns
returns g c = one_reply_each (judge_by g.D.Domain.operations)
