-- What holds of the bounds that rules give.
use Rattle.std.specs.Prelude.{◌≤◌, ◌<◌}
use Rattle.instruction_set.specs.declared.operation.Width.{Width}
use Rattle.word_domain.specs.declared.bounds.Bounds.{Bounds}
use Rattle.interval_domain.specs.Range.{number_count}

-- both bounds are in order
abbrev pub OrderedPair : Bounds × Bounds → Type 0
OrderedPair both = (both.0.low ≤ both.0.high) × (both.1.low ≤ both.1.high)

-- bounds in order, of numbers of a width
pub record IsRange (w : Width) (b : Bounds) : Type 0 where
  pub ordered : b.low ≤ b.high
  pub below : b.high < number_count w
