-- Completions: each submission has one, to its queue and with its identifier.
use Rattle.std.specs.Prelude.{ℕ, Bool, false, ◌≡◌, ◌+◌, ◌%◌, ◌^◌, ◌==◌, ◌&&◌, List, ◌++◌, count_by, Option, Some, None}
use Rattle.device_meaning.specs.Judging.{Judge}
use Rattle.nvme_entry.specs.Dwords.{dword}
use Rattle.nvme_entry.specs.Entry.{identifier_of}
use Rattle.device_events.specs.Replies.{ReplyWithData}
use Rattle.device_events.specs.ToldEvents.{ToldEvent}
use Rattle.device_events.specs.ToldEvents as told
use Rattle.device_events.specs.declared.reply.Reply.{Reply}
use Rattle.device_events.specs.declared.reply.Reply.TheVariants as reply
use Rattle.device_meaning.specs.Draining.{Drains}
use Rattle.device_meaning.specs.Events.{Occurrence, replies_to, state_after}
use Rattle.device_meaning.specs.JoinedEvents.{turn_events}
use Rattle.device_meaning.specs.State.{Place, State}

-- a queue and a command identifier
module _ (queue cid : ℕ) where
  -- do a queue, and the identifier in bits 15:0 of a number, name the same command as these (NVMe Base 2.0, 3.3.3.1)?
  abbrev pub is_this_command : ℕ → ℕ → Bool
  is_this_command from number = (from == queue) && (number % 2 ^ 16 == cid)

  -- is the reply the completion of the command of this queue and identifier, which stands in Dword 3 (NVMe Base 2.0, 3.3.3.2)?
  abbrev pub completes : Reply → Bool
  completes (reply.Complete from entry length) = is_this_command from (dword entry 3)
  completes (reply.Pending run) = false
  completes reply.Idle = false
  completes reply.FaultTaken = false
  completes reply.FaultRefused = false

  -- does the event submit the command of this queue and identifier?
  abbrev pub submits : ToldEvent → Bool
  submits (told.Submitted from entry input) = is_this_command from (identifier_of entry)
  submits (told.Turned run) = false
  submits (told.Faulted zone state) = false

  -- does the run at a place come of a Run with this queue and identifier?
  abbrev pub is_its_run : Option Place → Bool
  is_its_run None = false
  is_its_run (Some place) = is_this_command place.queue place.cid

  -- how many of these replies are completions for this queue and identifier
  abbrev pub completions : List ReplyWithData → ℕ
  completions replies = count_by (λ r. completes r.reply) replies

  -- how many of these events are submissions of this queue and identifier
  abbrev pub submissions : List Occurrence → ℕ
  submissions events = count_by (λ o. submits o.event) events

  -- how many active runs come of Runs with this queue and identifier
  abbrev pub active_runs : State → ℕ
  active_runs s = count_by is_its_run s.places

-- of each queue and identifier, what is submitted is completed, or is an active run then; and nothing else is completed
abbrev pub NoCompletionIsLost : Judge → Type 0
NoCompletionIsLost judge =
    (queue cid : ℕ) (s : State) (events : List Occurrence)
    → completions queue cid (replies_to judge events s) + active_runs queue cid (state_after judge events s)
    ≡ submissions queue cid events + active_runs queue cid s

-- once turns have drained the device, each submission has one completion, and so has each run that was active before
abbrev pub EachIsCompletedOnce : Judge → Type 0
EachIsCompletedOnce judge =
    (queue cid : ℕ) (s : State) (events : List Occurrence) (runs : List ℕ) → Drains (state_after judge events s) runs
    → completions queue cid (replies_to judge (events ++ turn_events runs) s) ≡ submissions queue cid events + active_runs queue cid s
