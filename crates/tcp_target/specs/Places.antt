-- A place for a connection.
use Rattle.std.specs.Prelude.{ℕ, Bool, true, false, not, nat_le, nat_lt, ◌&&◌, ◌==◌, ◌+◌, List, [], ◌++◌, length, Option, None, if◌then◌else◌}
use Rattle.tcp_connection.specs.declared.state.ConnectionState.{ConnectionState}
use Rattle.tcp_connection.specs.Connection.{begun}
use Rattle.tcp_connection.specs.Executing.{Execution, ready}

-- the connection; whether a host has it; how many of its commands the device has; and what is to be sent on it
pub record PlaceState : Type 0 where
  pub connection : ConnectionState
  pub is_open : Bool
  pub executing : ℕ
  pub unsent : List ℕ

-- no connection was here yet
abbrev pub vacant : PlaceState
vacant = record { connection = begun; is_open = false; executing = 0; unsent = [] }

-- one may come where no host has one, and the device has no command of the one before
abbrev pub is_free : PlaceState → Bool
is_free p = not p.is_open && p.executing == 0

-- back pressure: while more than 256 KiB are to be sent (profile), or the device has as many commands as a queue can have entries,
-- nothing is taken of what comes
abbrev pub goes_on : PlaceState → Bool
goes_on p = p.is_open && nat_le (length p.unsent) 262144 && nat_lt p.executing 128

-- the command that is to be executed next
abbrev pub ready_at : PlaceState → Option Execution
ready_at p = if goes_on p then ready p.connection else None

-- there is room for a completion with so many bytes of data
abbrev pub has_room : ℕ → PlaceState → Bool
has_room size p = nat_le (length p.unsent + 152 + size) 397312
