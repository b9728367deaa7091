use Rattle.device_meaning.specs.Judging.{interval_judge}
use Rattle.device_meaning.proofs.Proved.{no_reply_is_trapped}
use Rattle.device_laws.proofs.Reached.{sound}
use Rattle.device_laws.proofs.laws.no_reply_is_trapped.Goals as goal

pub returns : goal.returns
returns c = no_reply_is_trapped interval_judge sound
