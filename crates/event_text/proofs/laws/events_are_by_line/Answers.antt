use Rattle.event_text.proofs.JoinedFiles.{events_are_by_line}
use Rattle.event_text.proofs.laws.events_are_by_line.Goals as goal

pub returns : goal.returns
returns c = events_are_by_line
