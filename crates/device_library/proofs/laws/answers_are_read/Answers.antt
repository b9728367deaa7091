use Rattle.device_library.proofs.ReadBack.{answer_read}
use Rattle.device_library.proofs.laws.answers_are_read.Goals as goal

pub returns : goal.returns
returns c = answer_read
