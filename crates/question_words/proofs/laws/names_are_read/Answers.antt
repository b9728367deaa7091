use Rattle.question_words.proofs.ReadBack.{names_again}
use Rattle.question_words.proofs.laws.names_are_read.Goals as goal

pub returns : goal.returns
returns c = names_again
