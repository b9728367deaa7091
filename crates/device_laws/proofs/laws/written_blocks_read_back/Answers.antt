use Rattle.device_meaning.specs.Judging.{interval_judge}
use Rattle.pushdown.proofs.Proved.{written_blocks_read_back}
use Rattle.device_laws.proofs.laws.written_blocks_read_back.Goals as goal

pub returns : goal.returns
returns c = written_blocks_read_back interval_judge
