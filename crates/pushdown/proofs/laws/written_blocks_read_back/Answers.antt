use Rattle.device_meaning.specs.Judging.{judge_by}
use Rattle.pushdown.proofs.ReadBack.{written_blocks_read_back}
use Rattle.pushdown.proofs.laws.written_blocks_read_back.Goals as goal

pub returns : goal.returns
returns g c = written_blocks_read_back (judge_by g.D.Domain.operations)
