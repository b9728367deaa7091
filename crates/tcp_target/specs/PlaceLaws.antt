-- What holds of places.
use Rattle.std.specs.Prelude.{ℕ, ◌≡◌, List}
use Rattle.tcp_connection.specs.declared.queue.Outcome.{Outcome}
use Rattle.tcp_connection.specs.declared.queue.Phase.TheVariants.{Ended}
use Rattle.tcp_target.specs.Places.{PlaceState}
use Rattle.tcp_target.specs.PlaceEvents.{executed, received}

-- behind the end of a connection, as behind a fatal error, nothing is taken of what comes, and nothing more is sent
pub record NothingBehindTheEnd : Type 0 where
  pub takes : (p : PlaceState) (piece : List ℕ) → p.connection.phase ≡ Ended → received piece p ≡ (p, 0)
  pub sends : (p : PlaceState) (command : ℕ) (outcome : Outcome) (bytes : List ℕ) → p.connection.phase ≡ Ended
      → (executed command outcome bytes p).unsent ≡ p.unsent
