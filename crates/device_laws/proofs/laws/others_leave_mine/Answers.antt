use Rattle.device_meaning.specs.Judging.{interval_judge}
use Rattle.device_laws.proofs.Tenants.{others_leave_mine}
use Rattle.device_laws.proofs.laws.others_leave_mine.Goals as goal

pub returns : goal.returns
returns c = others_leave_mine interval_judge
