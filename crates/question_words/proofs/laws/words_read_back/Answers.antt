use Rattle.question_words.proofs.ReadBack.{words_again}
use Rattle.question_words.proofs.laws.words_read_back.Goals as goal

pub returns : goal.returns
returns c = words_again
