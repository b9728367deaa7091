-- That there is a Run of which the pushdown theorem speaks: its program emits, a turn that isn't its last appends, and a command of
-- another queue is done between its turns.
use Rattle.std.specs.Prelude.{ℕ, false, ◌≡◌, ◌≢◌, List, [], ◌∷◌, length, map, get_or, None}
use Rattle.device_meaning.specs.Judging.{interval_judge}
use Rattle.zone_state.specs.declared.status.TheConstants.Status.{SUCCESS}
use Rattle.nvme_entry.specs.Entry.{identifier_of}
use Rattle.nvme_entry.specs.declared.command.RunCommand.{RunCommand}
use Rattle.device_meaning.specs.EventReplies.{completion, submission_of}
use Rattle.device_meaning.specs.Events.{Occurrence, replies_to}
use Rattle.device_meaning.specs.Happenings.{admitted_place}
use Rattle.device_meaning.specs.Outcome.{Turn}
use Rattle.device_meaning.specs.Reached.{IsReached}
use Rattle.device_meaning.specs.State.{State}
use Rattle.device_events.specs.Replies.{without_data}
use Rattle.device_events.specs.ToldEvents.{ToldEvent}
use Rattle.device_events.specs.ToldEvents as told
use Rattle.device_events.specs.declared.reply.Reply.TheVariants as reply
use Rattle.pushdown.specs.Pushdown.{IsAdmitted, no_turn}

-- a submission, the first turn of a run, another submission, and two more turns of the run; memory isn't refused at any of them
abbrev pub interleaved : ToldEvent → ℕ → ToldEvent → List Occurrence
interleaved first run other =
    map (λ e. record { event = e; starved = false }) (first ∷ told.Turned run ∷ other ∷ told.Turned run ∷ told.Turned run ∷ [])

-- three turns, of which the second appends a block, and doesn't end the run
pub record AppendsBetween (turns : List Turn) : Type 0 where
  pub three : length turns ≡ 3
  pub appends : length (get_or turns 1 no_turn).blocks ≡ 1
  pub goes_on : (get_or turns 1 no_turn).ending ≡ None

-- The pushdown theorem's premises are met, by a Run whose program emits three frames over three turns, of which the second appends a
-- block. Behind the first a command of another queue succeeds.
pub record PushdownIsMet : Type 0 where
  -- a state that events leave
  pub state : State
  pub reached : IsReached interval_judge state
  -- a Run that is admitted there, and its turns
  pub queue : ℕ
  pub entry : List ℕ
  pub input : List ℕ
  pub command : RunCommand
  pub run : ℕ
  pub admitted : IsAdmitted state (submission_of queue entry input) command run
  pub turns : AppendsBetween (admitted_place (submission_of queue entry input) state command).turns
  -- a command of another queue, and what its completion gives back, as the block that a Zone Append is assigned
  pub other_queue : ℕ
  pub other_entry : List ℕ
  pub other_input : List ℕ
  pub another_queue : other_queue ≢ queue
  pub given_back : ℕ
  -- the replies to the Run, its first turn, the other command, and the two turns behind it: the run's completion tells three
  -- frames and three blocks
  pub replies :
      replies_to interval_judge (interleaved (told.Submitted queue entry input) run (told.Submitted other_queue other_entry other_input)) state
      ≡ without_data (reply.Pending run)
      ∷ without_data (reply.Pending run)
      ∷ completion other_queue (identifier_of other_entry) SUCCESS given_back 0 []
      ∷ without_data (reply.Pending run)
      ∷ completion queue (identifier_of entry) SUCCESS 3 3 []
      ∷ []
