-- All that is done with a served target, and what its device did and replied then.
use Rattle.std.specs.Prelude.{ℕ, ◌≡◌, List, [], ◌∷◌, ◌++◌, Option, Some, None, slice_index_or}
use Rattle.device_events.specs.Replies.{ReplyWithData}
use Rattle.device_events.specs.declared.event.Event.{Event}
use Rattle.device_events.specs.declared.event.Event.TheVariants as event
use Rattle.device_events.specs.declared.reply.Reply.{Reply}
use Rattle.device_events.specs.declared.reply.Reply.TheVariants as reply
use Rattle.tcp_connection.specs.Executing.{Execution}
use Rattle.tcp_target.specs.QueueCommands.{given_to_device}
use Rattle.tcp_target.specs.Events as target
use Rattle.tcp_target.specs.Time.{ticked}
use Rattle.tcp_device.specs.Served.{Resumes, ResumesGiven, Serves, ServesGiven, Turns, TurnsGiven, next_run}
use Rattle.tcp_device.specs.State.{CommandOfRun, ServedState, with_target}

-- a connection begins; bytes come on one, or were sent on it; one is closed; so many milliseconds go by; a connection is served; a run
-- is given a turn; or one is whose command came over no connection
pub data Deed : Type 0 where
  Opened : Deed
  Received : (number : ℕ) (piece : List ℕ) → Deed
  Sent : (number count : ℕ) → Deed
  Closed : (number : ℕ) → Deed
  Ticked : (milliseconds : ℕ) → Deed
  Served : (number : ℕ) → Deed
  Turned : Deed
  Resumed : (run : ℕ) → Deed

-- what is left of a state by it
abbrev pub Does : Deed → ServedState → ServedState → Type 0
Does Opened old new = new ≡ with_target (target.opened old.target) old
Does (Received number piece) old new = new ≡ with_target (target.received number piece old.target) old
Does (Sent number count) old new = new ≡ with_target (target.sent number count old.target) old
Does (Closed number) old new = new ≡ with_target (target.closed number old.target) old
Does (Ticked milliseconds) old new = new ≡ with_target (ticked milliseconds old.target) old
Does (Served number) old new = Serves number old new
Does Turned old new = Turns old new
Does (Resumed run) old new = Resumes run old new

-- ---- the device's events

-- a command that goes to the device is a submission of just its entry and its data, to the queue that has its connection's number
abbrev pub submissions : (given : Option Execution) (number : ℕ) (old new : ServedState) → ServesGiven given number old new → List Event
submissions None number old new done = []
submissions (Some execution) number old new done = event.Submit number execution.entry done.taken.carried ∷ []

abbrev pub turns : (run : Option ℕ) (old new : ServedState) → TurnsGiven run old new → List Event
turns None old new done = []
turns (Some run) old new done = event.Turn run ∷ []

abbrev pub resumptions : (command : Option CommandOfRun) (run : ℕ) (old new : ServedState) → ResumesGiven command run old new → List Event
resumptions None run old new done = event.Turn run ∷ []
resumptions (Some command) run old new done = []

-- nothing else that is done is an event of the device
abbrev pub events_in : (deed : Deed) (old new : ServedState) → Does deed old new → List Event
events_in Opened old new done = []
events_in (Received number piece) old new done = []
events_in (Sent number count) old new done = []
events_in (Closed number) old new done = []
events_in (Ticked milliseconds) old new done = []
events_in (Served number) old new done = submissions (given_to_device number old.target.queues) number old new done
events_in Turned old new done = turns (next_run old) old new done
events_in (Resumed run) old new done = resumptions (slice_index_or old.pending run None) run old new done

-- ---- the device's replies

-- the reply to a submission is the one that the host's completion is made of, or that names the run that will complete the command
abbrev pub submission_replies : (given : Option Execution) (number : ℕ) (old new : ServedState)
    → ServesGiven given number old new → List ReplyWithData
submission_replies None number old new done = []
submission_replies (Some execution) number old new done = done.reply ∷ []

-- and that to a turn is the one of which the completion of the run's command is made, where it ends the run
abbrev pub turn_replies : (run : Option ℕ) (old new : ServedState) → TurnsGiven run old new → List ReplyWithData
turn_replies None old new done = []
turn_replies (Some run) old new done = done.reply ∷ []

abbrev pub resumption_replies : (command : Option CommandOfRun) (run : ℕ) (old new : ServedState)
    → ResumesGiven command run old new → List ReplyWithData
resumption_replies None run old new done = done.reply ∷ []
resumption_replies (Some command) run old new done = []

abbrev pub replies_in : (deed : Deed) (old new : ServedState) → Does deed old new → List ReplyWithData
replies_in Opened old new done = []
replies_in (Received number piece) old new done = []
replies_in (Sent number count) old new done = []
replies_in (Closed number) old new done = []
replies_in (Ticked milliseconds) old new done = []
replies_in (Served number) old new done = submission_replies (given_to_device number old.target.queues) number old new done
replies_in Turned old new done = turn_replies (next_run old) old new done
replies_in (Resumed run) old new done = resumption_replies (slice_index_or old.pending run None) run old new done

-- the device's reply; Idle where it was asked for nothing
abbrev pub reply_in : List ReplyWithData → Reply
reply_in [] = reply.Idle
reply_in (given ∷ later) = given.reply

-- a deed is done, and the device replies this
pub record DoesWith (deed : Deed) (old new : ServedState) (reply : Reply) : Type 0 where
  pub does : Does deed old new
  pub replied : reply_in (replies_in deed old new does) ≡ reply

-- ---- deeds one behind another, of which the last stands first

pub record Follows (before : ServedState → Type 0) (deed : Deed) (new : ServedState) : Type 0 where
  pub between : ServedState
  pub first : before between
  pub last : Does deed between new

abbrev pub AreDone : List Deed → ServedState → ServedState → Type 0
AreDone [] old new = new ≡ old
AreDone (deed ∷ deeds) old new = Follows (AreDone deeds old) deed new

-- this holds of each of some deeds: of those before it, of it, and of the state that it is done in
abbrev pub Throughout : (List Deed → Deed → ServedState → Type 0) → (deeds : List Deed) (old new : ServedState)
    → AreDone deeds old new → Type 0
Throughout holds [] old new done = Unit {0}
Throughout holds (deed ∷ deeds) old new done = Throughout holds deeds old done.between done.first × holds deeds deed done.between

-- the device's events, in the order in which they happened
abbrev pub events_of : (deeds : List Deed) (old new : ServedState) → AreDone deeds old new → List Event
events_of [] old new done = []
events_of (deed ∷ deeds) old new done =
    events_of deeds old done.between done.first ++ events_in deed done.between new done.last

-- and the replies to these
abbrev pub replies_of : (deeds : List Deed) (old new : ServedState) → AreDone deeds old new → List ReplyWithData
replies_of [] old new done = []
replies_of (deed ∷ deeds) old new done =
    replies_of deeds old done.between done.first ++ replies_in deed done.between new done.last
