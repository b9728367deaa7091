use Rattle.device_meaning.specs.Judging.{judge_by}
use Rattle.pushdown.proofs.ReadBack.{written_is_read}
use Rattle.pushdown.proofs.laws.written_is_read.Goals as goal

pub returns : goal.returns
returns g c = written_is_read (judge_by g.D.Domain.operations)
