-- Whether there is something to do on a connection.
use Rattle.std.specs.Prelude.{ℕ, Bool, not, ◌&&◌, is_some}
use Rattle.tcp_target.specs.Places.{ready_at}
use Rattle.tcp_target.specs.Ends.{is_cut_off}
use Rattle.tcp_target.specs.Queues.{place_at}
use Rattle.tcp_target.specs.Target.{TargetState}

-- a command is ready on it, and it isn't cut off
abbrev pub is_ready : ℕ → TargetState → Bool
is_ready number t = is_some (ready_at (place_at number t.queues)) && not (is_cut_off number t.queues)
