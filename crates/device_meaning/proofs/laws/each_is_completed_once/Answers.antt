use Rattle.device_meaning.specs.Judging.{judge_by}
use Rattle.device_meaning.proofs.Completions.{each_is_completed_once, no_completion_is_lost}
use Rattle.device_meaning.proofs.laws.each_is_completed_once.Goals as goal

pub returns : goal.returns
returns g c = record { so_far = no_completion_is_lost (judge_by g.D.Domain.operations); drained = each_is_completed_once (judge_by g.D.Domain.operations) }
