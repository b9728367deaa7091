-- How calls that fail are counted.
use Rattle.std.specs.Prelude.{ℕ, ◌≡◌, ◌+◌, Result, Ok, Err}

-- a call that fails is counted, and nothing else is
abbrev pub CountsFailure : {X E : Type 0} → ℕ → ℕ → Result X E → Type 0
CountsFailure before after (Ok x) = after ≡ before
CountsFailure before after (Err fault) = after ≡ before + 1
