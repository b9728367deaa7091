use Rattle.question_words.proofs.RangesAgain.{ranges_again}
use Rattle.question_words.proofs.laws.ranges_are_read.Goals as goal

pub returns : goal.returns
returns c = ranges_again
