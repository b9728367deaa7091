use Rattle.event_text.proofs.SpelledEvents.{submissions_read_back}
use Rattle.event_text.proofs.laws.submissions_read_back.Goals as goal

pub returns : goal.returns
returns c = submissions_read_back
