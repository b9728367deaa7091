-- The judge of the device is sound.
use Rattle.interval_domain.proofs.Proved.{intervals_sound}
use Rattle.interval_domain.specs.Intervals.{intervals}
use Rattle.accepted_programs.proofs.Proved.{accepted_never_traps}
use Rattle.device_meaning.specs.Judging.{IsSoundJudge, interval_judge}
use Rattle.device_meaning.proofs.Proved.{domains_judge_soundly}

-- the programs that it accepts never trap
pub sound : IsSoundJudge interval_judge
sound = domains_judge_soundly intervals (accepted_never_traps intervals_sound)
