-- Laws of this crate, proved for the judge of the device: what the proofs of other crates cite of it.
use Rattle.device_meaning.specs.Judging.{interval_judge}
use Rattle.runner.specs.Restored.{OneIsRestored, RestoredMayBegin}
use Rattle.runner.proofs.Reached.{sound}
use Rattle.runner.proofs.RestoredDevices as restored

pub one_is_restored : OneIsRestored interval_judge
one_is_restored = restored.one_is_restored interval_judge

pub restored_may_begin : RestoredMayBegin interval_judge
restored_may_begin = restored.restored_may_begin interval_judge sound
