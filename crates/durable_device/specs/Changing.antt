-- Which events may have changed a device, by their replies.
use Rattle.std.specs.Prelude.{ℕ, Bool, true, false, not, ◌<◌, ◌^◌, ◌&&◌, Result, Ok, Err}
use Rattle.zone_state.specs.declared.status.Status.{Status}
use Rattle.nvme_entry.specs.Entry.{decoded, identifier_of}
use Rattle.nvme_entry.specs.declared.command.Command.{Command}
use Rattle.nvme_entry.specs.declared.command.Command.TheVariants.{Standard, Load, Run, Result as GiveResult}
use Rattle.zns_commands.specs.Change.{Change, Nothing, Writing, Moving}
use Rattle.zns_commands.specs.Meaning.{change_of}
use Rattle.device_events.specs.CompletionEntries.{tells_success, tells_want}
use Rattle.device_events.specs.ToldEvents.{ToldEvent, Submitted, Turned, Faulted}
use Rattle.device_events.specs.declared.reply.Reply.{Reply}
use Rattle.device_events.specs.declared.reply.Reply.TheVariants.{Complete, Pending, Idle, FaultTaken, FaultRefused}

-- does a command change zones?
abbrev pub is_change : Change → Bool
is_change Nothing = false
is_change (Writing lba blocks) = true
is_change (Moving lba action select_all) = true

-- may an entry change the device that names this command? One that only reads does not
abbrev pub asks_change : Result Command Status → Bool
asks_change (Err status) = false
asks_change (Ok (Standard c)) = is_change (change_of c)
asks_change (Ok (Load load)) = true
asks_change (Ok (Run command)) = true
asks_change (Ok (GiveResult slot)) = false

-- is a reply a completion whose status isn't success?
abbrev pub is_refusal : Reply → Bool
is_refusal (Complete queue entry length) = not (tells_success entry)
is_refusal (Pending run) = false
is_refusal Idle = false
is_refusal FaultTaken = false
is_refusal FaultRefused = false

-- is a reply such a completion?
abbrev pub is_want_of_memory : Reply → Bool
is_want_of_memory (Complete queue entry length) = tells_want entry
is_want_of_memory (Pending run) = false
is_want_of_memory Idle = false
is_want_of_memory FaultTaken = false
is_want_of_memory FaultRefused = false

-- is it the reply to the turn of a number that no run has?
abbrev pub is_idle : Reply → Bool
is_idle (Complete queue entry length) = false
is_idle (Pending run) = false
is_idle Idle = true
is_idle FaultTaken = false
is_idle FaultRefused = false

abbrev pub is_taken : Reply → Bool
is_taken (Complete queue entry length) = false
is_taken (Pending run) = false
is_taken Idle = false
is_taken FaultTaken = true
is_taken FaultRefused = false

-- may an event with this reply have changed the device? What is refused hasn't, as a Load hasn't for which memory was wanting
abbrev pub may_change : ToldEvent → Reply → Bool
may_change (Submitted queue entry input) r = asks_change (decoded entry) && not (is_refusal r)
may_change (Turned run) r = not (is_idle r)
may_change (Faulted zone state) r = is_taken r

-- the identifier of an entry has 16 bits
abbrev pub HasIdentifier : ToldEvent → Type 0
HasIdentifier (Submitted queue entry input) = identifier_of entry < 2 ^ 16
HasIdentifier (Turned run) = Unit {0}
HasIdentifier (Faulted zone state) = Unit {0}
