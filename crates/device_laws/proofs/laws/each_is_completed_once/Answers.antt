use Rattle.device_meaning.specs.Judging.{interval_judge}
use Rattle.device_meaning.proofs.Proved.{each_is_completed_once, no_completion_is_lost}
use Rattle.device_laws.proofs.laws.each_is_completed_once.Goals as goal

pub returns : goal.returns
returns c = record { so_far = no_completion_is_lost interval_judge; drained = each_is_completed_once interval_judge }
