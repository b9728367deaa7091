use Rattle.question_words.proofs.Precedence.{precedence}
use Rattle.question_words.proofs.laws.words_have_precedence.Goals as goal

pub returns : goal.returns
returns c = precedence
