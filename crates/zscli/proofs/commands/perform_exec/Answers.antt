use Rattle.zscli.proofs.Makes.{one_where_stopped}
use Rattle.zscli.proofs.commands.perform_exec.Goals as goal

pub returns-in-Ok-clause-one : goal.returns-in-Ok-clause-one
returns-in-Ok-clause-one g c = one_where_stopped c.exec.result _ _ _ c.exec.ensures.made c.exec.ensures.one c.exec.ensures.kept

pub returns-in-Err-clause-one : goal.returns-in-Err-clause-one
returns-in-Err-clause-one g c = one_where_stopped c.exec.result _ _ _ c.exec.ensures.made c.exec.ensures.one c.exec.ensures.kept
