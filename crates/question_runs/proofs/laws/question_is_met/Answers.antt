use Rattle.question_runs.proofs.Witness as witness
use Rattle.question_runs.proofs.laws.question_is_met.Goals as goal

pub returns : goal.returns
returns c = witness.question_is_met
