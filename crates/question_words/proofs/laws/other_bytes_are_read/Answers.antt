use Rattle.question_words.proofs.ReadBack.{other_bytes}
use Rattle.question_words.proofs.laws.other_bytes_are_read.Goals as goal

pub returns : goal.returns
returns c = other_bytes
