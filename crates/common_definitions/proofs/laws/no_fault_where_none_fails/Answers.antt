use Rattle.common_definitions.proofs.FirstChecks.{no_fault_where_none_fails}
use Rattle.common_definitions.proofs.laws.no_fault_where_none_fails.Goals as goal

pub returns : goal.returns
returns g c = no_fault_where_none_fails _
