-- Turns that a run is given at once (profile).
use Rattle.std.specs.Prelude.{ℕ, zero, suc, Bool, true, false, cond}
use Rattle.device_events.specs.declared.reply.Reply.{Reply}
use Rattle.device_events.specs.declared.reply.Reply.TheVariants as reply
use Rattle.device_meaning.specs.EventReplies.{Happening}
use Rattle.device_meaning.specs.Happenings.{turned}
use Rattle.device_meaning.specs.State.{State}

-- has a run turns left, by the reply to its turn?
abbrev pub has_turns_left : Reply → Bool
has_turns_left (reply.Pending run) = true
has_turns_left (reply.Complete queue entry length) = false
has_turns_left reply.Idle = false
has_turns_left reply.FaultTaken = false
has_turns_left reply.FaultRefused = false

-- a turn of a run, and up to so many more as long as it has turns left
abbrev pub turned_on : ℕ → State → ℕ → Happening
turned_on zero s run = turned s run
turned_on (suc more) s run =
    cond (has_turns_left (turned s run).reply.reply) (turned_on more (turned s run).state run) (turned s run)
