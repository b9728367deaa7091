-- Replies to events (profile), and what happens where an entry is answered at once or no run has the number asked for.
use Rattle.std.specs.Prelude.{ℕ, Bool, true, false, ◌≡◌, ◌<◌, ◌^◌, List, [], length, ◌⊎◌, Some}
use Rattle.zone_state.specs.declared.status.Status.{Status}
use Rattle.nvme_entry.specs.Completion.{completion_bytes}
use Rattle.nvme_entry.specs.Entry.{identifier_of}
use Rattle.device_meaning.specs.State.{Place, State, place_at}
use Rattle.device_events.specs.Replies.{ReplyWithData, without_data}
use Rattle.device_events.specs.ToldEvents.{ToldEvent}
use Rattle.device_events.specs.ToldEvents as told
use Rattle.device_events.specs.declared.reply.Reply.{Reply}
use Rattle.device_events.specs.declared.reply.Reply.TheVariants as reply

-- the reply to an event, and the state after it
pub record Happening : Type 0 where
  pub reply : ReplyWithData
  pub state : State

-- the reply that is a completion, with so many bytes of data
abbrev pub completion_reply : ℕ → ℕ → Status → ℕ → ℕ → ℕ → Reply
completion_reply queue cid status dw0 dw1 bytes =
    reply.Complete queue (completion_bytes (record { dw0 = dw0; dw1 = dw1; queue = queue; cid = cid; status = status })) bytes

-- a completion, with the data that goes with it
abbrev pub completion : ℕ → ℕ → Status → ℕ → ℕ → List ℕ → ReplyWithData
completion queue cid status dw0 dw1 output =
    record { reply = completion_reply queue cid status dw0 dw1 (length output); bytes = output }

-- is a reply a completion?
abbrev pub is_completion : Reply → Bool
is_completion (reply.Complete queue entry length) = true
is_completion (reply.Pending run) = false
is_completion reply.Idle = false
is_completion reply.FaultTaken = false
is_completion reply.FaultRefused = false

-- a reply is the completion of the command of this queue and identifier, with a status of which this holds; the status code
-- has 8 bits (NVMe Base 2.0, 3.3.3.2)
pub record IsCompletionOf (queue cid : ℕ) (holds : Status → Type 0) (answer : ReplyWithData) : Type 0 where
  pub status : Status
  pub code : status.code < 2 ^ 8
  pub dw0 : ℕ
  pub dw1 : ℕ
  pub output : List ℕ
  pub is : answer ≡ completion queue cid status dw0 dw1 output
  pub so : holds status

-- where the reply to an event is a completion, it is that of the entry or of the run whose turn it is, with such a status
abbrev pub CompletesOnlyWith : (Status → Type 0) → State → ToldEvent → ReplyWithData → Type 0
CompletesOnlyWith holds s (told.Submitted queue entry input) answer =
    (is_completion answer.reply ≡ false) ⊎ IsCompletionOf queue (identifier_of entry) holds answer
CompletesOnlyWith holds s (told.Turned run) answer =
    (is_completion answer.reply ≡ false)
    ⊎ ((place : Place) × (place_at s run ≡ Some place) × IsCompletionOf place.queue place.cid holds answer)
CompletesOnlyWith holds s (told.Faulted zone state) answer = is_completion answer.reply ≡ false

-- a submitted entry: its queue, its bytes, and the data beside it
pub record Submission : Type 0 where
  pub queue : ℕ
  pub entry : List ℕ
  pub input : List ℕ

-- an entry of these bytes, submitted to a queue with this data beside it
abbrev pub submission_of : ℕ → List ℕ → List ℕ → Submission
submission_of queue entry input = record { queue = queue; entry = entry; input = input }

-- an entry that is answered at once goes back to its queue with its identifier (NVMe Base 2.0, 3.3.3.2)
abbrev pub completed : Submission → Status → ℕ → ℕ → List ℕ → State → Happening
completed sub status dw0 dw1 output s =
    record { reply = completion sub.queue (identifier_of sub.entry) status dw0 dw1 output; state = s }

-- a refused entry changes nothing
abbrev pub refused : Submission → Status → State → Happening
refused sub status s = completed sub status 0 0 [] s

-- no run has the number
abbrev pub idle : State → Happening
idle s = record { reply = without_data reply.Idle; state = s }
