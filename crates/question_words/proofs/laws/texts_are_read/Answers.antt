use Rattle.question_words.proofs.QuotesAgain.{texts_again}
use Rattle.question_words.proofs.laws.texts_are_read.Goals as goal

pub returns : goal.returns
returns c = texts_again
