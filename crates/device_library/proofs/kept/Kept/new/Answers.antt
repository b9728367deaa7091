use Rattle.device_library.proofs.ServedRounds.{begins_between}
use Rattle.device_library.proofs.kept.Kept.new.Goals as goal

pub returns-clause-kept : goal.returns-clause-kept
returns-clause-kept c = λ usable. (c.handed.ensures.kept, begins_between c.over.result _ c.over.ensures.begun (c.over.ensures.ready tt))
