-- What a trace says of time, in microseconds of a clock that only goes on.
use Rattle.std.specs.Prelude.{ℕ, ◌≤◌, [], ◌∷◌, Option, Some, None}
use Rattle.tcp_loop.specs.Trace.{Trace}
use Rattle.tcp_loop.specs.declared.operation.Answer.{Answer}
use Rattle.tcp_loop.specs.declared.operation.Answer.TheVariants.{Time}
use Rattle.tcp_loop.specs.declared.operation.Operation.{Operation}
use Rattle.tcp_loop.specs.declared.operation.Operation.TheVariants.{Now}

-- the time that an answer tells, if it tells one
abbrev pub time_told : Answer → Option ℕ
time_told (Time now) = Some now
time_told _ = None

-- the last time that was told; 0 before the first
abbrev pub time_by : Operation → Answer → ℕ → ℕ
time_by Now (Time now) before = now
time_by _ _ before = before

abbrev pub time_of : Trace → ℕ
time_of [] = 0
time_of (m ∷ trace) = time_by m.asked m.answer (time_of trace)

-- times only grow
abbrev pub OnlyGrows : Trace → Type 0
OnlyGrows [] = Unit {0}
OnlyGrows (m ∷ trace) = (time_of trace ≤ time_by m.asked m.answer (time_of trace)) × OnlyGrows trace
