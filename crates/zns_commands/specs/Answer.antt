-- The answer to a command: its status, its dwords, and how many bytes of data it gives.
use Rattle.std.specs.Prelude.{ℕ, ◌/◌, ◌%◌, ◌^◌, Result, Ok, Err}
use Rattle.zone_state.specs.declared.status.Status.{Status}
use Rattle.zone_state.specs.declared.status.TheConstants.Status.{SUCCESS}
use Rattle.zns_commands.specs.declared.answer.Answer.{Answer}

-- that of a refused command
abbrev pub refused_answer : Status → Answer
refused_answer status = record { status = status; dw0 = 0; dw1 = 0; length = 0 }

-- that of a command that succeeds, with a number of 64 bits in its dwords, the low one first
abbrev pub success_answer : ℕ → ℕ → Answer
success_answer number size = record { status = SUCCESS; dw0 = number % 2 ^ 32; dw1 = number / 2 ^ 32; length = size }

-- that of a command without data, by the number that it gives or the status that refuses it
abbrev pub answer_without_data : Result ℕ Status → Answer
answer_without_data (Ok number) = success_answer number 0
answer_without_data (Err status) = refused_answer status
