use Rattle.device_meaning.specs.Judging.{judge_by}
use Rattle.pushdown.proofs.Lasting.{uncleared_zones_keep_blocks}
use Rattle.pushdown.proofs.laws.uncleared_zones_keep_blocks.Goals as goal

pub returns : goal.returns
returns g c = uncleared_zones_keep_blocks (judge_by g.D.Domain.operations)
