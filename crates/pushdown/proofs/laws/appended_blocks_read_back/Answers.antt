use Rattle.device_meaning.specs.Judging.{judge_by}
use Rattle.pushdown.proofs.ReadBack.{appended_blocks_read_back}
use Rattle.pushdown.proofs.laws.appended_blocks_read_back.Goals as goal

pub returns : goal.returns
returns g c = appended_blocks_read_back (judge_by g.D.Domain.operations)
