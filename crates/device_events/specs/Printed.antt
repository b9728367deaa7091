-- What an `Out` tells that prints the replies that it takes.
use Rattle.std.specs.Prelude.{ℕ, ◌≡◌, ◌≤◌, List, Option, flat_map}
use Rattle.std.specs.Io.KnownBytes.{Appends}
use Rattle.device_events.specs.Replies.{ReplyWithData}

-- how many replies were refused, and the bytes that were printed, where these are known
pub record Printed : Type 0 where
  pub refusals : ℕ
  pub bytes : Option (List ℕ)

-- no refusal is forgotten, and the texts of these replies came behind what was printed before, and nothing else; but once a
-- reply is refused nothing is said of the bytes, for of its text nobody knows how much was printed
pub record Prints (text : ReplyWithData → List ℕ) (old new : Printed) (replies : List ReplyWithData) : Type 0 where
  pub no_fewer : old.refusals ≤ new.refusals
  pub texts : new.refusals ≡ old.refusals → Appends old.bytes new.bytes (flat_map text replies)
