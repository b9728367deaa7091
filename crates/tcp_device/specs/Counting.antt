-- The commands that the device has of a connection are its runs: so these never keep the connection from taking more.
use Rattle.std.specs.Prelude.{ℕ, ◌≡◌, ◌≤◌, ◌+◌, ◌==◌, ◌&&◌, nat_le, Bool, false, List, [], ◌∷◌, length, Option, None, Some, if◌then◌else◌}
use Rattle.device_meaning.specs.State.{State}
use Rattle.tcp_admin.specs.declared.subsystem.NamespaceFormat.{NamespaceFormat}
use Rattle.tcp_admin.specs.declared.subsystem.Subsystem.{Subsystem}
use Rattle.tcp_target.specs.Places.{goes_on}
use Rattle.tcp_device.specs.Deeds.{AreDone, Deed}
use Rattle.tcp_device.specs.Order.{place_of}
use Rattle.tcp_device.specs.State.{CommandOfRun, ServedState, begun_on}

-- the runs whose commands came on a connection
abbrev pub is_of : ℕ → Option CommandOfRun → Bool
is_of number None = false
is_of number (Some c) = c.connection == number

abbrev pub runs_of : ℕ → List (Option CommandOfRun) → ℕ
runs_of number [] = 0
runs_of number (one ∷ rest) = (if is_of number one then 1 else 0) + runs_of number rest

pub record RunsAreCounted (s : ServedState) : Type 0 where
  pub count : (number : ℕ) → (place_of number s).executing ≡ runs_of number s.pending
  pub few : (number : ℕ) → (place_of number s).executing ≤ 8
  -- so a connection that is open takes more unless its host leaves more than 256 KiB unread
  pub goes : (number : ℕ) → goes_on (place_of number s) ≡ (place_of number s).is_open && nat_le (length (place_of number s).unsent) 262144

-- in every state that deeds lead to from the beginning; a device has 8 places for runs
abbrev pub RunsAreAlwaysCounted : Type 0
RunsAreAlwaysCounted =
    (device : State) (subsystem : Subsystem) (format : NamespaceFormat) (deeds : List Deed) (s : ServedState) → length device.places ≡ 8
    → AreDone deeds (begun_on device subsystem format) s → RunsAreCounted s
