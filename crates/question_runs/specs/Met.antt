-- That there is a question of which the laws speak.
use Rattle.std.specs.Prelude.{None, ℕ, Bool, ◌≡◌, ◌+◌, List, [], ◌∷◌, length}
use Rattle.std.specs.declared.alloc.Global.{Global}
use Rattle.std.specs.Ptr.{Ptr}
use Rattle.common_definitions.specs.Bytes.{AreBytes, field}
use Rattle.nvme_entry.specs.declared.command.RunCommand.{RunCommand}
use Rattle.device_meaning.specs.Admission.{source_blocks}
use Rattle.device_meaning.specs.EventReplies.{submission_of}
use Rattle.device_meaning.specs.Events.{AreEvents, Occurrence}
use Rattle.device_meaning.specs.State.{State}
use Rattle.pushdown.specs.Pushdown.{IsAdmitted, own_turns}
use Rattle.question_runs.specs.Answered.{answer_of}
use Rattle.question_runs.specs.Loaded.{QuestionWasLoaded}
use Rattle.question_runs.specs.Words.{tallies_of}
use Rattle.record_questions.specs.declared.question.Comparison.TheVariants.{GreaterOrEqual}
use Rattle.record_questions.specs.declared.question.Field.{Field}
use Rattle.record_questions.specs.declared.question.Operand.TheVariants.{Argument}
use Rattle.record_questions.specs.declared.question.Predicate.TheVariants.{Compare}
use Rattle.record_questions.specs.declared.question.Question.{Question}
use Rattle.record_questions.specs.declared.question.Tally.TheVariants.{Count}

-- A question, a device that has loaded its program, and a Run that is admitted there, with all its turns but the last. The question
-- compares a field with the argument of the run, and counts. Of the four records in the two blocks of the run two match, one of each
-- block.
pub record IsMet : Type 0 where
  pub q : Question
  pub state : State
  pub command : RunCommand
  pub loaded : QuestionWasLoaded state command.slot q
  pub queue : ℕ
  pub entry : List ℕ
  pub input : List ℕ
  pub starved : Bool
  pub run : ℕ
  pub events : List Occurrence
  pub admitted : IsAdmitted state (submission_of queue entry input) command run
  pub bytes : AreBytes entry
  pub are_events : AreEvents events
  pub last_left : own_turns run events + 1 ≡ command.blocks
  pub compared : Field
  pub asks_argument : q.wanted ≡ Compare compared GreaterOrEqual Argument
  pub counts : q.tallies.items ≡ Count ∷ []
  pub one_group : q.by ≡ None
  pub two_records : q.count ≡ 2
  pub two_blocks : length (source_blocks state.namespace command) ≡ 2
  pub two_match : answer_of q command.argument (source_blocks state.namespace command) ≡ (9 ∷ 0 ∷ []) ∷ (8 ∷ 0 ∷ []) ∷ []
  pub count_is : field (tallies_of q command.argument (source_blocks state.namespace command)) 0 8 ≡ 2

-- all premises of `QuestionsAreAnswered` are met, wherever the question's lists lie in memory
abbrev pub QuestionIsMet : Type 0
QuestionIsMet = Ptr → Global → IsMet
