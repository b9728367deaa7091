-- The first of several things that there is.
use Rattle.std.specs.Prelude.{ℕ, zero, suc, Option, None}
use Rattle.std.specs.Option.{option_or}

-- what there is of the lowest number below a count of which there is anything
abbrev pub first_of : {X : Type 0} → (ℕ → Option X) → ℕ → Option X
first_of of zero = None
first_of of (suc count) = option_or (first_of of count) (of count)
