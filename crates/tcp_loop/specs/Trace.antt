-- What a loop asked for, and what came of it.
use Rattle.std.specs.Prelude.{ℕ, List}
use Rattle.tcp_loop.specs.declared.operation.Answer.{Answer}
use Rattle.tcp_loop.specs.declared.operation.Operation.{Operation}

-- an operation, the bytes that it carried, what came of it, and the bytes that came with that
pub record Made : Type 0 where
  pub asked : Operation
  pub carried : List ℕ
  pub answer : Answer
  pub came : List ℕ

-- operations one after another, of which the last stands first
abbrev pub Trace : Type 0
Trace = List Made
