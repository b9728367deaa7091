use Rattle.question_words.proofs.RangesAgain.{sets_again}
use Rattle.question_words.proofs.laws.sets_are_read.Goals as goal

pub returns : goal.returns
returns c = sets_again
