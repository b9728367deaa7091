use Rattle.device_meaning.specs.Judging.{interval_judge}
use Rattle.device_laws.proofs.Tenants.{tenants_leave_others}
use Rattle.device_laws.proofs.laws.tenants_leave_others.Goals as goal

pub returns : goal.returns
returns c = tenants_leave_others interval_judge
