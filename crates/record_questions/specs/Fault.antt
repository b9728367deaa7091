-- Why a question has no code.
use Rattle.std.specs.Prelude.{◌≡◌, ◌<◌, length, ⊤}
use Rattle.program_interface.specs.declared.TheConstants.{MOST_SLOTS}
use Rattle.record_questions.specs.Code.{counted, question_program}
use Rattle.record_questions.specs.declared.fault.CodeFault.{CodeFault}
use Rattle.record_questions.specs.declared.fault.CodeFault.TheVariants.{TooLong, Memory}
use Rattle.record_questions.specs.declared.question.Question.{Question}

-- what each fault says of the question
abbrev pub IsCodeFaultOf : Question → CodeFault → Type 0
IsCodeFaultOf q (TooLong count) = (count ≡ counted (length (question_program q))) × (MOST_SLOTS < length (question_program q))
IsCodeFaultOf q Memory = ⊤
