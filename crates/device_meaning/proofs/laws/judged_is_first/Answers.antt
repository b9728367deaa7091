use Rattle.device_meaning.proofs.Judging.{judged_is_first, judged_is_unrefused}
use Rattle.device_meaning.proofs.laws.judged_is_first.Goals as goal

pub returns : goal.returns
returns g c = record {
  accepted = judged_is_unrefused g.D.Domain.operations;
  refused = judged_is_first g.D.Domain.operations c.fault_is_first.ensures c.refusal_is_first.ensures;
}
