-- What goes with a call, beside its kind.
use Rattle.std.specs.Prelude.{ℕ, List}
use Rattle.device_library.specs.declared.asked.AskedBy.{AskedBy}

-- a number, as of a connection or a queue; a count, as of bytes, or the kind of an event; and two pieces of bytes. What a kind doesn't
-- speak of is 0, or no bytes
pub record Asked : Type 0 where
  pub number : ℕ
  pub count : ℕ
  pub piece : List ℕ
  pub beside : List ℕ

-- as the code has it
abbrev pub told_by : AskedBy → Asked
told_by asked = record { number = asked.number; count = asked.count; piece = asked.piece.now; beside = asked.beside.now }
