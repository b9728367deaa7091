-- Answers by their numbers, as target/pifnjarl_loop.h has them.
use Rattle.std.specs.Prelude.{ℕ, ◌==◌, ◌||◌, Bool, List, [], if◌then◌else◌, map, take}
use Rattle.device_library.specs.Flags.{is_set, padded}
use Rattle.device_library.specs.declared.answer_asked.AnswerAsked.{AnswerAsked}
use Rattle.tcp_loop.specs.declared.operation.Answer.{Answer}
use Rattle.tcp_loop.specs.declared.operation.Answer.TheVariants as answer
use Rattle.tcp_loop.specs.declared.operation.Ready.{Ready}

-- what C says came of an operation
pub record Said : Type 0 where
  pub kind : ℕ
  pub number : ℕ
  pub piece : List ℕ
  pub beside : List ℕ

abbrev pub told_by : AnswerAsked → Said
told_by a = record { kind = a.kind; number = a.number; piece = a.piece.now; beside = a.beside.now }

abbrev pub accepts : ℕ → Bool
accepts number = number == 1 || number == 3

abbrev pub signals : ℕ → Bool
signals number = number == 2 || number == 3

abbrev pub ends : ℕ → Bool
ends number = number == 1

abbrev pub ready_in : Said → Ready
ready_in s = record {
  reads = map is_set (padded s.piece);
  writes = map is_set (padded s.beside);
  accepts = accepts s.number;
  signals = signals s.number;
}

-- an answer of a kind that there isn't says that the operation failed
abbrev pub answer_of : ℕ → Said → Answer
answer_of kind s =
    if kind == 0 then answer.Done
    else if kind == 1 then answer.Came
    else if kind == 2 then answer.Taken s.number
    else if kind == 3 then answer.Again
    else if kind == 4 then answer.NoRoom
    else if kind == 6 then answer.Happened (ready_in s)
    else if kind == 7 then answer.Time s.number
    else if kind == 8 then answer.Signal (ends s.number)
    else answer.Failed

abbrev pub answer_in : Said → Answer
answer_in s = answer_of s.kind s

-- the bytes that came
abbrev pub came_in : Said → List ℕ
came_in s = if s.kind == 1 then take 65536 s.piece else []
