-- Numbers below a bound.
use Rattle.std.specs.Prelude.{ℕ, nat_lt, Option, Some, None, if◌then◌else◌}

-- the number, where it is below a bound
abbrev pub below : ℕ → ℕ → Option ℕ
below bound number = if nat_lt number bound then Some number else None
