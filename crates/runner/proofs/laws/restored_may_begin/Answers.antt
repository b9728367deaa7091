use Rattle.device_meaning.specs.Judging.{judge_by}
use Rattle.runner.proofs.RestoredDevices.{one_is_restored, restored_may_begin}
use Rattle.runner.proofs.laws.restored_may_begin.Goals as goal

pub returns-clause-one : goal.returns-clause-one
returns-clause-one g c = one_is_restored (judge_by g.D.Domain.operations)

pub returns-clause-begins : goal.returns-clause-begins
returns-clause-begins g c = restored_may_begin (judge_by g.D.Domain.operations) c.domains_judge_soundly.ensures
