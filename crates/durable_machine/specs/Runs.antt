-- What lists of events do.
use Rattle.std.specs.Prelude.{Bool, ℕ, false, List}
use Rattle.std.specs.List.{fold}

module _ {S : Type 0} (next : S → Bool → List ℕ → S) where
  -- the state after events, where memory is given
  abbrev pub state_again : List (List ℕ) → S → S
  state_again events s = fold (λ before event. next before false event) s events
