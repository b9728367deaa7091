-- What one event does.
use Rattle.std.specs.Prelude.{◌≡◌, ℕ, Bool, true, false, List}
use Rattle.durable_machine.specs.declared.machine.Applied.{Applied}

-- an event led from one state to the other, and it is told whether it may change the state
pub record HasApplied {S : Type 0} (next : S → Bool → List ℕ → S) (event : List ℕ) (old : S) (done : Applied) (new : S) : Type 0 where
  pub refused : Bool
  pub state : new ≡ next old refused event
  -- done again, it leads to the same where memory is given
  pub again : done.changes ≡ true → new ≡ next old false event
  pub idle : done.changes ≡ false → new ≡ old
  pub fed : done.starved ≡ false → new ≡ next old false event
