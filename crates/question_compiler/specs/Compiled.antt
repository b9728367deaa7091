-- Programs of questions that are accepted.
use Rattle.std.specs.Prelude.{◌≡◌, List, Option, None}
use Rattle.instruction_set.specs.declared.instruction.Instruction.{Instruction}
use Rattle.instruction_set.specs.Program.{IsProgram}
use Rattle.program_interface.specs.RunSizes.{Sizes}
use Rattle.accepted_programs.specs.Accepted.{refusal}
use Rattle.interval_domain.specs.Intervals.{intervals}
use Rattle.record_questions.specs.Code.{question_program}
use Rattle.record_questions.specs.Asked.{IsQuestion}
use Rattle.record_questions.specs.declared.question.Question.{Question}

-- a program that asks a question of blocks of these sizes: the question can be asked of them, the program is its, and by intervals
-- there is no reason to refuse it
pub record IsCompiled (q : Question) (sizes : Sizes) (program : List (Option Instruction)) : Type 0 where
  pub asked : IsQuestion sizes.block q
  pub of_question : program ≡ question_program q
  pub is_program : IsProgram program
  pub accepted : refusal intervals program sizes ≡ None
