-- An event that C asks a device in memory for.
use Rattle.std.specs.Prelude.{ℕ, true, nat_le, ◌≡◌, ◌==◌, List, [], ◌∷◌, length, take, drop, replicate, Option, Some, None, if◌then◌else◌}
use Rattle.common_definitions.specs.Checks.{demand, first_failed}
use Rattle.zone_state.specs.declared.state.FaultState.{FaultState}
use Rattle.zone_state.specs.declared.state.FaultState.TheVariants as fault
use Rattle.nvme_entry.specs.declared.command.TheConstants.{MOST_TRANSFER}
use Rattle.device_events.specs.Replies.{data_length}
use Rattle.device_events.specs.declared.event.Event.{Event}
use Rattle.device_events.specs.declared.event.Event.TheVariants as event
use Rattle.device_events.specs.declared.reply.Reply.{Reply}
use Rattle.device_events.specs.declared.reply.Reply.TheVariants as reply
use Rattle.device_meaning.specs.Events.{HasHappened}
use Rattle.device_meaning.specs.Judging.{interval_judge}
use Rattle.device_meaning.specs.State.{State}
use Rattle.device_library.specs.Asked.{Asked}
use Rattle.device_library.specs.declared.event.ReplyHead.{ReplyHead}
use Rattle.device_library.specs.declared.numbers.TheConstants.{SUBMIT, TURN, FAULT_READ_ONLY, FAULT_OFFLINE}
use Rattle.device_library.specs.declared.numbers.TheConstants.{COMPLETION, PENDING, IDLE, FAULT_TAKEN, FAULT_REFUSED}
use Rattle.device_library.specs.declared.numbers.TheConstants.{NUMBER_TOO_LARGE, UNKNOWN_KIND, WRONG_SIZE}

-- what is asked for: the kind of an event; the queue, the run or the zone; and of a submission the entry and the data beside it
pub record EventAsked : Type 0 where
  pub kind : ℕ
  pub number : ℕ
  pub entry : List ℕ
  pub input : List ℕ

-- of a call its kind is told as a count, and its entry and data as two pieces
abbrev pub event_of : Asked → EventAsked
event_of asked = record { kind = asked.count; number = asked.number; entry = asked.piece; input = asked.beside }

-- the kind of a fault
abbrev pub fault_kind : FaultState → ℕ
fault_kind fault.ReadOnly = FAULT_READ_ONLY
fault_kind fault.Offline = FAULT_OFFLINE

-- this event is what is asked for
abbrev pub IsAsked : EventAsked → Event → Type 0
IsAsked asked (event.Submit queue entry input) =
    (asked.kind ≡ SUBMIT) × ((asked.number ≡ queue) × ((asked.entry ≡ entry) × (asked.input ≡ input.items)))
IsAsked asked (event.Turn run) = (asked.kind ≡ TURN) × (asked.number ≡ run)
IsAsked asked (event.Fault zone state) = (asked.kind ≡ fault_kind state) × (asked.number ≡ zone)

-- ---- what is refused

-- the largest number that goes with a kind: of a queue, a run or a zone; none where no event is of the kind
abbrev pub most_number : ℕ → Option ℕ
most_number kind =
    if kind == SUBMIT then Some 65535
    else if kind == TURN then Some 255
    else if kind == FAULT_READ_ONLY then Some 4294967295
    else if kind == FAULT_OFFLINE then Some 4294967295
    else None

-- the checks of an event of a kind, in order: its number, the bytes of an entry, and the room for data
abbrev pub checks : ℕ → ℕ → ℕ → ℕ → ℕ → List (Option ℕ)
checks most kind number entry room =
    demand (nat_le number most) NUMBER_TOO_LARGE
    ∷ demand (if kind == SUBMIT then entry == 64 else true) WRONG_SIZE
    ∷ demand (nat_le MOST_TRANSFER room) WRONG_SIZE
    ∷ []

-- the number of the first check that fails
abbrev pub refusal_by : Option ℕ → ℕ → ℕ → ℕ → ℕ → Option ℕ
refusal_by None kind number entry room = Some UNKNOWN_KIND
refusal_by (Some most) kind number entry room = first_failed (checks most kind number entry room)

-- why nothing can happen that is asked for, where the entry has so many bytes, and there is room for so many
abbrev pub refusal : ℕ → ℕ → ℕ → ℕ → Option ℕ
refusal kind number entry room = refusal_by (most_number kind) kind number entry room

-- ---- what is told of a reply

-- how many bytes of data go with it, the queue or the run, and the completion
abbrev pub head_of : Reply → ReplyHead
head_of (reply.Complete queue entry length) = record { length = length; number = queue; completion = entry }
head_of (reply.Pending run) = record { length = 0; number = run; completion = replicate 16 0 }
head_of reply.Idle = record { length = 0; number = 0; completion = replicate 16 0 }
head_of reply.FaultTaken = record { length = 0; number = 0; completion = replicate 16 0 }
head_of reply.FaultRefused = record { length = 0; number = 0; completion = replicate 16 0 }

-- its number
abbrev pub reply_number : Reply → ℕ
reply_number (reply.Complete queue entry length) = COMPLETION
reply_number (reply.Pending run) = PENDING
reply_number reply.Idle = IDLE
reply_number reply.FaultTaken = FAULT_TAKEN
reply_number reply.FaultRefused = FAULT_REFUSED

-- ---- calls

-- the event that is asked for happened, and the data of the reply is in front of the output, behind which nothing changed
pub record Happens (asked : EventAsked) (old new : State) (reply : Reply) (before after : List ℕ) : Type 0 where
  pub event : Event
  pub asked_for : IsAsked asked event
  pub happened : HasHappened interval_judge event old new (record { reply = reply; bytes = take (data_length reply) after })
  pub rest : drop (data_length reply) after ≡ drop (data_length reply) before

-- a device in memory, and what lies in C's memory beside
pub record MemoryLent : Type 0 where
  pub device : State
  pub reply : ReplyHead
  pub out : List ℕ

-- nothing was done, and this is answered
pub record IsTold (told : ℕ) (old new : MemoryLent) (answer : ℕ) : Type 0 where
  pub told_is : answer ≡ told
  pub same : new ≡ old

-- the event happened to the device, and its reply is told
pub record IsAnswered (asked : EventAsked) (old new : MemoryLent) (answer : ℕ) : Type 0 where
  pub reply : Reply
  pub happens : Happens asked old.device new.device reply old.out new.out
  pub head : new.reply ≡ head_of reply
  pub told : answer ≡ reply_number reply

-- the event that is asked for happened, or it is told why not
abbrev pub DoesUnless : Option ℕ → EventAsked → MemoryLent → MemoryLent → ℕ → Type 0
DoesUnless (Some why) asked old new answer = IsTold why old new answer
DoesUnless None asked old new answer = IsAnswered asked old new answer

abbrev pub DoesEvent : EventAsked → MemoryLent → MemoryLent → ℕ → Type 0
DoesEvent asked old new answer = DoesUnless (refusal asked.kind asked.number (length asked.entry) (length old.out)) asked old new answer
