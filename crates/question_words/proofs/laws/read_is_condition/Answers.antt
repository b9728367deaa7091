use Rattle.question_words.proofs.Fitting.{read_fits}
use Rattle.question_words.proofs.laws.read_is_condition.Goals as goal

pub returns : goal.returns
returns c = read_fits
