use Rattle.event_text.proofs.BlankLines.{blank_lines_make_no_event}
use Rattle.event_text.proofs.laws.blank_lines_make_no_event.Goals as goal

pub returns : goal.returns
returns c = blank_lines_make_no_event
