use Rattle.device_meaning.specs.Judging.{judge_by}
use Rattle.device_meaning.proofs.WantOfMemory.{only_loads_want_memory}
use Rattle.device_meaning.proofs.laws.only_loads_want_memory.Goals as goal

pub returns : goal.returns
returns g c = only_loads_want_memory (judge_by g.D.Domain.operations)
