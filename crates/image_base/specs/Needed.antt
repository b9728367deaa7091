-- How many bytes a base takes, by the first bytes of a file.
use Rattle.std.specs.Prelude.{◌≡◌, ◌⊎◌, ◌<◌, ◌≤◌, ◌^◌, ℕ, ◌+◌, List, ◌∷◌, ◌++◌, length}
use Rattle.durable_machine.specs.Events.{AreSized, number_bytes, spelled}

-- an event at the front of a file that begins with these bytes takes this many; or at least this many, where they are more
pub record TakesEvent (n : ℕ) (event front : List ℕ) : Type 0 where
  pub least : n ≤ 9 + length event
  pub whole : n ≤ length front → n ≡ 9 + length event

-- so it is with each event that may be there
abbrev pub NeedsEvent : ℕ → List ℕ → Type 0
NeedsEvent n front =
    (event rest more : List ℕ) → length event < 2 ^ 64 → front ++ more ≡ 1 ∷ number_bytes (length event) ++ event ++ rest → TakesEvent n event front

-- so many events at the front of a file that begins with these bytes are among them, or take at least this many bytes, which are more
abbrev pub NeedsEvents : ℕ → ℕ → List ℕ → Type 0
NeedsEvents count n front =
    (events : List (List ℕ)) (rest more : List ℕ) → length events ≡ count → AreSized events → front ++ more ≡ spelled events ++ rest
    → (length (spelled events) ≤ length front) ⊎ ((length front < n) × (n ≤ length (spelled events)))
