-- Replies with their data.
use Rattle.std.specs.Prelude.{ℕ, List, [], ◌++◌}
use Rattle.device_events.specs.declared.reply.Reply.{Reply}
use Rattle.device_events.specs.declared.reply.Reply.TheVariants as reply

-- a reply with the bytes of its data
pub record ReplyWithData : Type 0 where
  pub reply : Reply
  pub bytes : List ℕ

-- a reply without data
abbrev pub without_data : Reply → ReplyWithData
without_data r = record { reply = r; bytes = [] }

-- how much data goes with a reply
abbrev pub data_length : Reply → ℕ
data_length (reply.Complete queue entry length) = length
data_length (reply.Pending run) = 0
data_length reply.Idle = 0
data_length reply.FaultTaken = 0
data_length reply.FaultRefused = 0

-- what is taken first and what is taken then are taken in this order
abbrev pub Joins : {T : Type 0} → (T → T → List ReplyWithData → Type 0) → Type 0
Joins {T} took = (a b c : T) (first later : List ReplyWithData) → took a b first → took b c later → took a c (first ++ later)
