-- The submissions of a command file, with the lines that they stand on.
use Rattle.std.specs.Prelude.{ℕ, Bool, true, false, ◌==◌, ◌&&◌, List, Option, Some, None, Result, Ok}
use Rattle.device_events.specs.declared.event.Event.{Event}
use Rattle.device_events.specs.declared.event.Event.TheVariants as event
use Rattle.nvme_entry.specs.Entry.{decoded, identifier_of}
use Rattle.nvme_entry.specs.declared.command.Command.{Command}
use Rattle.nvme_entry.specs.declared.command.Command.TheVariants as command
use Rattle.command_explain.specs.declared.submissions.Identity.{Identity}
use Rattle.command_explain.specs.declared.submissions.Submission.{Submission}

-- are these the same queue and the same command identifier?
abbrev pub same_identity : Identity → Identity → Bool
same_identity a b = (a.queue == b.queue) && (a.cid == b.cid)

-- the submission that an event is, which stands on the line with the number beside it
abbrev pub submission_in : Event × ℕ → Option Submission
submission_in (event.Submit queue entry input, line) =
    Some (record { line = line; identity = record { queue = queue; cid = identifier_of entry }; entry = entry })
submission_in (event.Turn run, line) = None
submission_in (event.Fault zone state, line) = None

-- an entry is decoded to a Run
abbrev pub is_run_of : {E : Type 0} → Result Command E → Bool
is_run_of (Ok (command.Run run)) = true
is_run_of _ = false

-- an entry is a Run's
abbrev pub is_run : List ℕ → Bool
is_run entry = is_run_of (decoded entry)
