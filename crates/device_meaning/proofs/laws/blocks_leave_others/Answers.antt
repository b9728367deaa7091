use Rattle.device_meaning.proofs.Added.{blocks_leave_others}
use Rattle.device_meaning.proofs.laws.blocks_leave_others.Goals as goal

pub returns : goal.returns
returns c = blocks_leave_others
