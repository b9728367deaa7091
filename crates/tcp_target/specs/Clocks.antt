-- How long ago something happened, in the milliseconds of ticks.
use Rattle.std.specs.Prelude.{ℕ, Bool, false, ◌+◌, min, nat_le, List, [], ◌∷◌, Option, Some, None, if◌then◌else◌}
use Rattle.tcp_target.specs.declared.clocks.ConnectionClock.{ConnectionClock}
use Rattle.tcp_target.specs.declared.clocks.ControllerClock.{ControllerClock}

-- A clock counts the milliseconds of the ticks that began after something happened. That may have been within the first tick after it,
-- which starts the clock at 0: so a clock never counts more than has gone by. It stops at 2 ^ 64 - 1
abbrev pub later : ℕ → Option ℕ → Option ℕ
later milliseconds None = Some 0
later milliseconds (Some counted) = Some (min (counted + milliseconds) 18446744073709551615)

-- so many milliseconds at least have gone by
abbrev pub is_past : ℕ → Option ℕ → Bool
is_past limit None = false
is_past limit (Some counted) = nat_le limit counted

-- a clock after these ticks, in their order
abbrev pub after_ticks : List ℕ → Option ℕ → Option ℕ
after_ticks [] clock = clock
after_ticks (milliseconds ∷ ticks) clock = after_ticks ticks (later milliseconds clock)

-- ---- of a connection

abbrev pub started_connection : ConnectionClock
started_connection = record { begun = None; taken = None }

-- where nothing waits to be sent, all is as good as taken
abbrev pub later_connection : ℕ → Bool → ConnectionClock → ConnectionClock
later_connection milliseconds waits clock = record {
  begun = later milliseconds clock.begun;
  taken = if waits then later milliseconds clock.taken else None;
}

-- ---- of a controller

abbrev pub started_controller : ControllerClock
started_controller = record { admin = None; queues = None }

abbrev pub later_controller : ℕ → ControllerClock → ControllerClock
later_controller milliseconds clock = record {
  admin = later milliseconds clock.admin;
  queues = later milliseconds clock.queues;
}
