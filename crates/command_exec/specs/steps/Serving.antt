-- What takes replies goes on taking them.
use Rattle.std.specs.Prelude.{List}
use Rattle.device_events.specs.Replies.{ReplyWithData}

-- some replies were taken, in order, and no other
abbrev pub Goes : (List ReplyWithData → Type 0) → Type 0
Goes took = (replies : List ReplyWithData) × took replies
