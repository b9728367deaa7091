use Rattle.event_text.proofs.WordedLines.{events_have_lines}
use Rattle.event_text.proofs.laws.events_have_lines.Goals as goal

pub returns : goal.returns
returns c = events_have_lines
