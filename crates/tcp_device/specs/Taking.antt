-- Bytes that come on a connection wait for no other connection, and a command that is ready is the next of its connection.
use Rattle.std.specs.Prelude.{ℕ, ◌≡◌, ◌≤◌, true, List, ◌∷◌}
use Rattle.tcp_admin.specs.declared.subsystem.NamespaceFormat.{NamespaceFormat}
use Rattle.tcp_admin.specs.declared.subsystem.Subsystem.{Subsystem}
use Rattle.tcp_connection.specs.Connection.{takes}
use Rattle.tcp_connection.specs.Executing.{Execution}
use Rattle.tcp_target.specs.Places.{goes_on}
use Rattle.tcp_target.specs.Events.{count_of}
use Rattle.tcp_target.specs.Ready.{is_ready}
use Rattle.device_meaning.specs.State.{State}
use Rattle.tcp_device.specs.Answering.{IsNext}
use Rattle.tcp_device.specs.Deeds.{AreDone, Deed}
use Rattle.tcp_device.specs.Order.{place_of}
use Rattle.tcp_device.specs.State.{ServedState, begun_on}

-- in every state that deeds lead to from the beginning
pub record BytesAreTaken (s : ServedState) : Type 0 where
  -- a connection takes at least one of the bytes that come, unless it has ended, a command is ready on it, which goes first, or its host
  -- has left more than 256 KiB unread
  pub takes : (number first : ℕ) (piece : List ℕ) → goes_on (place_of number s) ≡ true → takes (place_of number s).connection ≡ true
      → 1 ≤ count_of number (first ∷ piece) s.target
  -- a command that is ready is the next of its connection
  pub next : (number : ℕ) → is_ready number s.target ≡ true → (execution : Execution) × IsNext execution (place_of number s)

abbrev pub BytesAreAlwaysTaken : Type 0
BytesAreAlwaysTaken =
    (device : State) (subsystem : Subsystem) (format : NamespaceFormat) (deeds : List Deed) (s : ServedState)
    → AreDone deeds (begun_on device subsystem format) s → BytesAreTaken s
