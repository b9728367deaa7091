-- The order in which commands go at a place (NVMe Base 2.0, 3.3.3).
use Rattle.std.specs.Prelude.{ℕ, ◌≡◌, List, [], ◌∷◌, Some, if◌then◌else◌}
use Rattle.tcp_connection.specs.declared.queue.Outcome.{Outcome}
use Rattle.tcp_connection.specs.Executing.{Execution}
use Rattle.tcp_connection.specs.Order.{IsSettled, KeepsOrder, brought}
use Rattle.tcp_target.specs.Places.{PlaceState, goes_on, ready_at}
use Rattle.tcp_target.specs.PlaceEvents.{answered_at, executed, handed_over, kept, opened, received, sent}

-- the entries that a piece brings: none while nothing is taken
abbrev pub brought_at : List ℕ → PlaceState → List (List ℕ)
brought_at piece p = if goes_on p then brought piece p.connection else []

abbrev pub PlaceKeepsOrder : (went came : List (List ℕ)) (old new : PlaceState) → Type 0
PlaceKeepsOrder went came old new = KeepsOrder went came old.connection new.connection

-- from a connection's beginning on, whatever happens at the place, its commands go in the order of their capsules: to the device, or to
-- the target, and what is sent and completed changes nothing of it
pub record PlacesKeepOrder : Type 0 where
  pub begins : (p : PlaceState) → IsSettled (opened p).connection
  pub receives : (piece : List ℕ) (p : PlaceState) → IsSettled p.connection
      → PlaceKeepsOrder [] (brought_at piece p) p (received piece p).0
  pub hands_over : (p : PlaceState) (execution : Execution) → IsSettled p.connection → ready_at p ≡ Some execution
      → PlaceKeepsOrder (execution.entry ∷ []) [] p (handed_over p)
  pub keeps : (p : PlaceState) (execution : Execution) → IsSettled p.connection → ready_at p ≡ Some execution
      → PlaceKeepsOrder (execution.entry ∷ []) [] p (kept p)
  pub answers : (p : PlaceState) (execution : Execution) (command : ℕ) (outcome : Outcome) (bytes : List ℕ) → IsSettled p.connection
      → ready_at p ≡ Some execution → PlaceKeepsOrder (execution.entry ∷ []) [] p (answered_at command outcome bytes p)
  pub executes : (command : ℕ) (outcome : Outcome) (bytes : List ℕ) (p : PlaceState) → IsSettled p.connection
      → PlaceKeepsOrder [] [] p (executed command outcome bytes p)
  pub sends : (count : ℕ) (p : PlaceState) → IsSettled p.connection → PlaceKeepsOrder [] [] p (sent count p)
