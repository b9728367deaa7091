-- A question that is asked of a device is answered, whatever events come between.
use Rattle.std.specs.Prelude.{ℕ, Bool, ◌≡◌, ◌≤◌, ◌+◌, ◌*◌, List, [], length, take, drop, Ok}
use Rattle.std.specs.List.{concat, flat_map}
use Rattle.common_definitions.specs.Bytes.{AreBytes}
use Rattle.zone_state.specs.declared.status.TheConstants.Status.{SUCCESS}
use Rattle.zns_commands.specs.Address.{write_pointer}
use Rattle.nvme_entry.specs.Entry.{identifier_of}
use Rattle.nvme_entry.specs.declared.command.RunCommand.{RunCommand}
use Rattle.nvme_entry.specs.declared.command.TheConstants.{MOST_TRANSFER}
use Rattle.emit_append.specs.Unpacking.{unpacked}
use Rattle.device_meaning.specs.Admission.{destination_zone, source_blocks}
use Rattle.device_meaning.specs.EventReplies.{Happening, completion, submission_of}
use Rattle.device_meaning.specs.Events.{AreEvents, Occurrence, state_after}
use Rattle.device_meaning.specs.Judging.{interval_judge}
use Rattle.device_meaning.specs.State.{State}
use Rattle.pushdown.specs.Pushdown.{IsAdmitted, next, own_turns}
use Rattle.pushdown.specs.ReadBack.{NoEventClears, NoEventReplaces, ReadsGive, ResultGives}
use Rattle.question_runs.specs.Loaded.{HasQuestion, QuestionWasLoaded}
use Rattle.question_runs.specs.Words.{HasWords, matches_of, tallies_of}
use Rattle.record_questions.specs.Question.{answer}
use Rattle.record_questions.specs.declared.question.Question.{Question}

-- ---- answers

-- the answer of blocks: what is emitted of those of their records that match, in order
abbrev pub answer_of : Question → ℕ → List (List ℕ) → List (List ℕ)
answer_of q argument blocks = flat_map (answer q argument) blocks

-- ---- what is read

-- in a state any of these blocks in a row, no more than a transfer may be, are read from an address on
abbrev pub AreRead : State → (lba block : ℕ) → List (List ℕ) → Type 0
AreRead s lba block all =
    (at blocks : ℕ) → at + blocks ≤ length all → 1 ≤ blocks → blocks * block ≤ MOST_TRANSFER
    → ReadsGive interval_judge s (lba + at) blocks (concat (take blocks (drop at all)))

-- they are, whatever events come after a state that leave the zone neither Empty nor Offline
abbrev pub StayRead : State → (z lba block : ℕ) → List (List ℕ) → Type 0
StayRead s z lba block all =
    (later : List Occurrence) → AreEvents later → NoEventClears interval_judge z later s
    → AreRead (state_after interval_judge later s) lba block all

-- a Result of a slot gives these bytes, whatever events come after a state at none of which a run of the slot ends or a Load of it succeeds
abbrev pub StaysResult : State → ℕ → List ℕ → Type 0
StaysResult s slot bytes =
    (later : List Occurrence) → NoEventReplaces interval_judge slot later s
    → ResultGives interval_judge (state_after interval_judge later s) slot bytes

-- ---- a Run that is submitted in a state, and the events after it up to the run's last turn

module _ (s : State) (queue : ℕ) (entry input : List ℕ) (starved : Bool) (command : RunCommand) (run : ℕ)
    (events : List Occurrence) (q : Question) where
  -- the blocks that it is over
  abbrev pub source : List (List ℕ)
  source = source_blocks s.namespace command

  -- the zone that it appends to
  abbrev pub destination : ℕ
  destination = destination_zone s.namespace command

  -- what is emitted of their records that match
  abbrev pub records : List (List ℕ)
  records = answer_of q command.argument source

  -- the tallies of these records
  abbrev pub tallies : List ℕ
  tallies = tallies_of q command.argument source

  -- what its last turn comes to
  abbrev pub last : Happening
  last = next interval_judge s queue entry input starved command run events

  -- The last turn is answered with the completion of the Run, a success, which has the number of the records, and that of the blocks that
  -- were appended. These are read from where the destination's end was, and unpack to the records. Result gives the tallies: each
  -- of a group has a word, which is what it comes to over the matching records of the group.
  pub record IsAnswered : Type 0 where
    pub appended : List (List ℕ)
    pub completed : last.reply ≡ completion queue (identifier_of entry) SUCCESS (length records) (length appended) []
    pub read : StayRead last.state destination (write_pointer s.namespace destination) s.namespace.block appended
    pub unpacks : unpacked s.namespace.block (concat appended) ≡ Ok records
    pub result : StaysResult last.state command.slot tallies
    pub words : HasWords q (matches_of q command.argument source) tallies

-- In each state in which a slot has the program of a question: a Run of the slot is admitted, events come, and all its turns but the
-- last are among them, of which there is one for each block. The last turn answers it.
abbrev pub AnswersIn : (State → ℕ → Question → Type 0) → Type 0
AnswersIn IsIn =
    (s : State) (command : RunCommand) (q : Question) → IsIn s command.slot q
    → (queue : ℕ) (entry input : List ℕ) (starved : Bool) (run : ℕ) (events : List Occurrence)
    → IsAdmitted s (submission_of queue entry input) command run
    → AreBytes entry → AreEvents events → own_turns run events + 1 ≡ command.blocks
    → IsAnswered s queue entry input starved command run events q

-- it does where the slot has its program,
abbrev pub RunsAnswer : Type 0
RunsAnswer = AnswersIn HasQuestion

-- and so where a Load of it succeeded, and no other Load of the slot since
abbrev pub QuestionsAreAnswered : Type 0
QuestionsAreAnswered = AnswersIn QuestionWasLoaded
