use Rattle.event_text.proofs.SpelledEvents.{faults_read_back}
use Rattle.event_text.proofs.laws.faults_read_back.Goals as goal

pub returns : goal.returns
returns c = faults_read_back
