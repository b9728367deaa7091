use Rattle.question_words.proofs.QuotesAgain.{quotes_again}
use Rattle.question_words.proofs.laws.quotes_are_read.Goals as goal

pub returns : goal.returns
returns c = quotes_again
