use Rattle.event_text.proofs.BlankLines.{comments_dont_count}
use Rattle.event_text.proofs.laws.comments_dont_count.Goals as goal

pub returns : goal.returns
returns c = comments_dont_count
