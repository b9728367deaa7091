use Rattle.device_meaning.specs.Judging.{interval_judge}
use Rattle.pushdown.proofs.Proved.{appended_blocks_read_back}
use Rattle.device_laws.proofs.laws.appended_blocks_read_back.Goals as goal

pub returns : goal.returns
returns c = appended_blocks_read_back interval_judge
