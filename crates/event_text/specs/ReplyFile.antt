-- Files of the lines that replies are printed as (profile).
use Rattle.std.specs.Prelude.{◌≡◌, ◌==◌, ◌||◌, ℕ, Bool, true, List, length, nat_lt}
use Rattle.device_events.specs.CompletionEntries.{tells_success}
use Rattle.device_events.specs.Replies.{data_length}
use Rattle.device_events.specs.declared.reply.Reply.{Reply}
use Rattle.device_events.specs.declared.reply.Reply.TheVariants.{Complete, Pending, Idle, FaultTaken, FaultRefused}
use Rattle.zone_resources.specs.declared.holds.TheConstants.{RUNS}
use Rattle.event_text.specs.declared.reply_file.Told.{Told}
use Rattle.event_text.specs.declared.reply_file.Told.TheVariants as told
use Rattle.event_text.specs.declared.reply_file.ToldReply.{ToldReply}
use Rattle.event_text.specs.Lines.{reply_text}

-- the reply that a line tells; of a completion whose bytes no device gives, the one of these bytes
abbrev pub reply_told : Told → Reply
reply_told (told.Reply reply) = reply
reply_told (told.Unknown queue entry length) = Complete queue entry length

-- the reply of a line with its data
abbrev pub reply_of : ToldReply → Reply
reply_of told = reply_told told.told

-- the line that tells a reply, without its end
abbrev pub told_text : ToldReply → List ℕ
told_text told = reply_text (reply_of told) told.bytes.items

-- its data is as long as the reply tells
abbrev pub HasItsData : ToldReply → Type 0
HasItsData told = data_length (reply_of told) ≡ length told.bytes.items

-- a device can give such a reply: a command that is refused gives no data, and a run that goes on has one of the places for runs
abbrev pub can_be_given : Reply → Bool
can_be_given (Complete queue entry length) = (length == 0) || tells_success entry
can_be_given (Pending run) = nat_lt run RUNS
can_be_given Idle = true
can_be_given FaultTaken = true
can_be_given FaultRefused = true
