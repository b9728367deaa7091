-- Ordered lists of checks: the first that fails decides.
use Rattle.std.specs.Prelude.{Bool, List, [], ◌∷◌, Option, Some, None, Result, Ok, if◌then◌else◌}
use Rattle.std.specs.Option.{option_or}
use Rattle.common_definitions.specs.Readings.{unless_fault}

-- a check that fails with this fault where the test doesn't hold
abbrev pub demand : {F : Type 0} → Bool → F → Option F
demand test fault = if test then None else Some fault

-- the fault of the first check that fails
abbrev pub first_failed : {F : Type 0} → List (Option F) → Option F
first_failed [] = None
first_failed (check ∷ checks) = option_or check (first_failed checks)

-- the value, where no check fails
abbrev pub unless_failed : {X F : Type 0} → Option F → X → Result X F
unless_failed fault x = unless_fault fault (Ok x)
