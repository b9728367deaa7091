-- What the answers of commands come to.
use Rattle.std.specs.Prelude.{ℕ, Bool, ◌≡◌, List, [], take, Result}
use Rattle.zone_state.specs.declared.status.Status.{Status}
use Rattle.nvme_entry.specs.Entry.{identifier_of}
use Rattle.nvme_entry.specs.declared.command.Command.{Command}
use Rattle.nvme_entry.specs.declared.command.LoadCommand.{LoadCommand}
use Rattle.nvme_entry.specs.declared.command.RunCommand.{RunCommand}
use Rattle.nvme_entry.specs.declared.command.StandardCommand.{StandardCommand}
use Rattle.device_meaning.specs.Judging.{Judge}
use Rattle.zns_commands.specs.Meaning.{meaning}
use Rattle.zns_commands.specs.declared.answer.Answer.{Answer}
use Rattle.device_meaning.specs.EventReplies.{Happening, Submission, completed, completion_reply, refused, submission_of}
use Rattle.device_events.specs.Replies.{ReplyWithData, data_length, without_data}
use Rattle.device_meaning.specs.Happenings.{commanded, giving_result, loading, starting, submitted}
use Rattle.device_meaning.specs.State.{State, holds_at}
use Rattle.device_events.specs.declared.reply.Reply.{Reply}
use Rattle.device_events.specs.declared.reply.Reply.TheVariants as reply
use Rattle.runner.specs.declared.submission.Submission.{Submission as GivenSubmission}

-- an entry as the code has it, with the data beside it
abbrev pub as_submission : GivenSubmission → Submission
as_submission s = submission_of s.queue s.entry.now s.input.now

-- an answer, with the bytes whose first ones are its data, as the completion of an entry
abbrev pub answered : Submission → Answer → List ℕ → State → Happening
answered sub answer bytes s = completed sub answer.status answer.dw0 answer.dw1 (take answer.length bytes) s

-- a reply with its data, which is in front of these bytes
abbrev pub with_data : Reply → List ℕ → ReplyWithData
with_data reply bytes = record { reply = reply; bytes = take (data_length reply) bytes }

-- the completion that an answer comes to
abbrev pub complete_reply : ℕ → ℕ → Answer → Reply
complete_reply queue cid answer = completion_reply queue cid answer.status answer.dw0 answer.dw1 answer.length

-- a standard command with this data beside it was answered so, and led from one state to the other
abbrev pub HasExecuted : StandardCommand → List ℕ → State → State → Answer → List ℕ → Type 0
HasExecuted asked input old new answer bytes =
    (queue : ℕ) (entry : List ℕ)
    → let sub = submission_of queue entry input in
    commanded sub old (meaning old.namespace (holds_at old) asked input) ≡ answered sub answer bytes new

-- a Load of these bytes was answered so, whatever its queue and its entry, and led from one state to the
-- other; memory may have been refused to it
pub record HasLoaded (judge : Judge) (load : LoadCommand) (input : List ℕ) (old new : State) (answer : Answer) : Type 0 where
  pub starved : Bool
  pub happening : (queue : ℕ) (entry : List ℕ)
      → let sub = submission_of queue entry input in
      loading judge starved sub old load ≡ answered sub answer [] new

-- a Result with this data beside it was answered so, and changes nothing
abbrev pub GivesResult : ℕ → List ℕ → State → Answer → List ℕ → Type 0
GivesResult slot input s answer bytes =
    (queue : ℕ) (entry : List ℕ)
    → let sub = submission_of queue entry input in
    giving_result sub s slot ≡ answered sub answer bytes s

-- a Run was admitted with a number
abbrev pub Starts : RunCommand → ℕ → ℕ → List ℕ → State → State → ℕ → Type 0
Starts command queue cid input old new run =
    (entry : List ℕ) → identifier_of entry ≡ cid
    → let sub = submission_of queue entry input in
    starting sub old command ≡ record { reply = without_data (reply.Pending run); state = new }

-- no run is started, with this status
abbrev pub Refuses : RunCommand → List ℕ → State → Status → Type 0
Refuses command input s status =
    (queue : ℕ) (entry : List ℕ)
    → let sub = submission_of queue entry input in
    starting sub s command ≡ refused sub status s

-- an entry that asks for this led from one state to the other, with this reply
pub record HasSubmitted (judge : Judge) (given : GivenSubmission) (asked : Result Command Status) (old new : State) (reply : ReplyWithData) : Type 0 where
  pub starved : Bool
  pub happening : submitted judge starved (as_submission given) old asked ≡ record { reply = reply; state = new }
