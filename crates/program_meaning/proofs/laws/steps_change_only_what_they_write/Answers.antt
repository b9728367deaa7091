use Rattle.program_meaning.proofs.StateLemmas.{steps_change_only_what_they_write}
use Rattle.program_meaning.proofs.laws.steps_change_only_what_they_write.Goals as goal

pub returns : goal.returns
returns c = steps_change_only_what_they_write
