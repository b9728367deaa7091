use Rattle.event_text.proofs.SpelledEvents.{turns_read_back}
use Rattle.event_text.proofs.laws.turns_read_back.Goals as goal

pub returns : goal.returns
returns c = turns_read_back
