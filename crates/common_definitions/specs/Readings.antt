-- How readings follow one another, and checks.
use Rattle.std.specs.Prelude.{List, ◌++◌, Option, Some, None, Result, Ok, Err}

-- one reading after another: the first fault is told
infixl 10 ◌>>=◌
abbrev pub ◌>>=◌ : {E X Y : Type 0} → Result X E → (X → Result Y E) → Result Y E
(Ok x) >>= next = next x
(Err fault) >>= next = Err fault

-- what was read before, in front of what a reading gives
abbrev pub with_front : {E X : Type 0} → List X → Result (List X) E → Result (List X) E
with_front front read = read >>= λ more. Ok (front ++ more)

-- a reading, unless a check before it has found a fault
abbrev pub unless_fault : {E X : Type 0} → Option E → Result X E → Result X E
unless_fault None read = read
unless_fault (Some fault) read = Err fault
