-- What the program of a question does.
use Rattle.std.specs.Prelude.{ℕ, ◌≡◌, List, length}
use Rattle.common_definitions.specs.Bytes.{field}
use Rattle.instruction_set.specs.Program.{instruction_count}
use Rattle.program_interface.specs.Frame as interface
use Rattle.program_meaning.specs.BlockRun.{BlockRun, block_run_of}
use Rattle.program_meaning.specs.State.{IsState, at_start}
use Rattle.program_meaning.specs.TrapFree.{NeverTraps}
use Rattle.program_meaning.specs.declared.end.End.TheVariants.{Exit}
use Rattle.record_questions.specs.Asked.{IsQuestion}
use Rattle.record_questions.specs.Code.{question_program}
use Rattle.record_questions.specs.declared.question.Question.{Question}
use Rattle.record_questions.specs.Question.{answer, matching}
use Rattle.record_questions.specs.Tallies.{tallied_of}

-- the run's argument, in its context
abbrev pub argument_in : List ℕ → ℕ
argument_in context = field context 20 4

-- a block run that answers a question: it ends by EXIT with 0, by which a run goes on; its group is the frames of the answer;
-- and it tallies the records that match in scratch
pub record Answers (q : Question) (argument : ℕ) (block scratch : List ℕ) (run : BlockRun) : Type 0 where
  pub goes_on : run.end ≡ Exit 0
  pub group : run.state.group ≡ interface.frames (answer q argument block)
  pub counted : run.state.frames ≡ length (answer q argument block)
  pub tallied : run.state.memory.scratch ≡ tallied_of q (matching q argument block) scratch

-- over every block of the length, every context and every scratch, a question's program that never traps answers it
abbrev pub AnswersBlocks : Type 0
AnswersBlocks = (q : Question) (limit block : ℕ) → IsQuestion block q → NeverTraps (question_program q) limit block
    → (bytes context scratch : List ℕ) → length bytes ≡ block → IsState (at_start bytes context scratch)
    → Answers q (argument_in context) bytes scratch
    (block_run_of (question_program q) limit (instruction_count (question_program q)) 0 (at_start bytes context scratch))
