use Rattle.event_text.proofs.ReplyTexts.{lines_tell_replies}
use Rattle.event_text.proofs.laws.lines_tell_replies.Goals as goal

pub returns : goal.returns
returns c = lines_tell_replies
