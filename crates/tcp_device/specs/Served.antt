-- What a served target does with commands, and with runs.
use Rattle.std.specs.Prelude.{ℕ, Bool, false, ◌≡◌, ◌≤◌, ◌+◌, ◌%◌, List, drop, length, position, Option, Some, None, slice_index_or, slice_set}
use Rattle.device_events.specs.Replies.{ReplyWithData}
use Rattle.device_events.specs.declared.event.Event.TheVariants as event
use Rattle.device_events.specs.declared.reply.Reply.{Reply}
use Rattle.device_events.specs.declared.reply.Reply.TheVariants as reply
use Rattle.device_meaning.specs.Events.{HasHappened}
use Rattle.device_meaning.specs.Judging.{interval_judge}
use Rattle.device_meaning.specs.State.{State}
use Rattle.runner.specs.Taken.{HasTaken}
use Rattle.tcp_pdus.specs.Direction.{identifier_of}
use Rattle.tcp_pdus.specs.declared.sent.TheConstants.{MOST_DATA}
use Rattle.tcp_connection.specs.Executing.{Execution}
use Rattle.tcp_target.specs.Places.{has_room}
use Rattle.tcp_target.specs.QueueCommands.{given_to_device}
use Rattle.tcp_target.specs.Queues.{place_at}
use Rattle.tcp_target.specs.Commands.{served}
use Rattle.tcp_target.specs.Events.{executed, handed_over, run_ended}
use Rattle.tcp_target.specs.Target.{TargetState}
use Rattle.tcp_device.specs.Outcome.{outcome_in}
use Rattle.tcp_device.specs.State.{CommandOfRun, ServedState, with_target}

-- ---- commands

-- a command that the device has executed at once is completed,
abbrev pub completed_by : Reply → List ℕ → ℕ → List ℕ → TargetState → TargetState
completed_by (reply.Complete queue completion length) bytes number entry t = executed number entry (outcome_in completion) bytes t
completed_by (reply.Pending run) bytes number entry t = t
completed_by reply.Idle bytes number entry t = t
completed_by reply.FaultTaken bytes number entry t = t
completed_by reply.FaultRefused bytes number entry t = t

-- and one that a run completes later is kept at the number of that
abbrev pub kept_by : Reply → ℕ → List ℕ → List (Option CommandOfRun) → List (Option CommandOfRun)
kept_by (reply.Complete queue completion length) number entry pending = pending
kept_by (reply.Pending run) number entry pending =
    slice_set pending run (Some (record { connection = number; command = identifier_of entry }))
kept_by reply.Idle number entry pending = pending
kept_by reply.FaultTaken number entry pending = pending
kept_by reply.FaultRefused number entry pending = pending

-- what is left of a target whose device gave this reply to an entry, and came to this state
abbrev pub returned : ReplyWithData → ℕ → List ℕ → State → ServedState → ServedState
returned r number entry device s = record {
  device = device;
  target = completed_by r.reply r.bytes number entry (handed_over number s.target);
  pending = kept_by r.reply number entry s.pending;
  next = s.next;
}

-- an entry, with just its data, is submitted to the device, on the queue that has the connection's number, and the device gives at most
-- as much data as one command moves
pub record Submits (entry input : List ℕ) (number : ℕ) (old new : ServedState) : Type 0 where
  pub reply : ReplyWithData
  pub taken : HasTaken number entry input old.device new.device reply
  pub few : length reply.bytes ≤ MOST_DATA
  pub rest : new ≡ returned reply number entry new.device old

-- the target executes the command that is ready on a connection itself, or it goes to the device
abbrev pub ServesGiven : Option Execution → ℕ → ServedState → ServedState → Type 0
ServesGiven None number old new = new ≡ with_target (served number old.target) old
ServesGiven (Some execution) number old new = Submits execution.entry execution.data number old new

abbrev pub Serves : ℕ → ServedState → ServedState → Type 0
Serves number old new = ServesGiven (given_to_device number old.target.queues) number old new

-- ---- turns

-- a run may have a turn where the connection of its command has room for a completion
abbrev pub can_go : TargetState → Option CommandOfRun → Bool
can_go t None = false
can_go t (Some p) = has_room 0 (place_at p.connection t.queues)

-- the lowest number, from this one on, of a run that may
abbrev pub behind : ℕ → Option ℕ → Option ℕ
behind first None = None
behind first (Some offset) = Some (first + offset)

abbrev pub run_from : TargetState → List (Option CommandOfRun) → ℕ → Option ℕ
run_from t pending first = behind first (position (can_go t) (drop first pending))

-- the next run, round the runs
abbrev pub or_else : Option ℕ → Option ℕ → Option ℕ
or_else None other = other
or_else (Some run) other = Some run

abbrev pub next_run : ServedState → Option ℕ
next_run s = or_else (run_from s.target s.pending s.next) (run_from s.target s.pending 0)

-- where a turn ends its run the command of that is completed,
abbrev pub ended_with : Option CommandOfRun → List ℕ → TargetState → TargetState
ended_with None completion t = t
ended_with (Some p) completion t = run_ended p.connection p.command (outcome_in completion) t

abbrev pub ended_by : Reply → Option CommandOfRun → TargetState → TargetState
ended_by (reply.Complete queue completion length) command t = ended_with command completion t
ended_by (reply.Pending number) command t = t
ended_by reply.Idle command t = t
ended_by reply.FaultTaken command t = t
ended_by reply.FaultRefused command t = t

-- and another run may have its number
abbrev pub freed_by : Reply → ℕ → List (Option CommandOfRun) → List (Option CommandOfRun)
freed_by (reply.Complete queue completion length) run pending = slice_set pending run None
freed_by (reply.Pending number) run pending = pending
freed_by reply.Idle run pending = pending
freed_by reply.FaultTaken run pending = pending
freed_by reply.FaultRefused run pending = pending

-- what is left of a target whose device gave this reply to a turn, and came to this state; the next turn looks behind the run
abbrev pub turned : ReplyWithData → ℕ → State → ServedState → ServedState
turned r run device s = record {
  device = device;
  target = ended_by r.reply (slice_index_or s.pending run None) s.target;
  pending = freed_by r.reply run s.pending;
  next = (run + 1) % 8;
}

-- a run is given a turn
pub record TurnsRun (run : ℕ) (old new : ServedState) : Type 0 where
  pub reply : ReplyWithData
  pub happened : HasHappened interval_judge (event.Turn run) old.device new.device reply
  pub rest : new ≡ turned reply run new.device old

-- the next run is given one, where there is a run that may have it
abbrev pub TurnsGiven : Option ℕ → ServedState → ServedState → Type 0
TurnsGiven None old new = new ≡ old
TurnsGiven (Some run) old new = TurnsRun run old new

abbrev pub Turns : ServedState → ServedState → Type 0
Turns old new = TurnsGiven (next_run old) old new

-- ---- runs whose commands came over no connection of this target, as of those that were kept with the device

-- such a run is given a turn; no host is told what that completes
pub record GoesOn (run : ℕ) (old new : ServedState) : Type 0 where
  pub reply : ReplyWithData
  pub happened : HasHappened interval_judge (event.Turn run) old.device new.device reply
  pub rest : new ≡ record old { device = new.device }

-- where a connection waits for the run, nothing happens
abbrev pub ResumesGiven : Option CommandOfRun → ℕ → ServedState → ServedState → Type 0
ResumesGiven None run old new = GoesOn run old new
ResumesGiven (Some command) run old new = new ≡ old

abbrev pub Resumes : ℕ → ServedState → ServedState → Type 0
Resumes run old new = ResumesGiven (slice_index_or old.pending run None) run old new
