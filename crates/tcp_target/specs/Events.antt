-- What happens to a target.
use Rattle.std.specs.Prelude.{ℕ, ◌==◌, List, Option, None, Some, if◌then◌else◌}
use Rattle.tcp_target.specs.declared.role.Role.{Role}
use Rattle.tcp_target.specs.declared.role.Role.TheVariants.{Unconnected, Admin, Io, Ended}
use Rattle.tcp_target.specs.Associations.{role_at}
use Rattle.tcp_connection.specs.declared.queue.Outcome.{Outcome}
use Rattle.tcp_target.specs.PlaceEvents as places
use Rattle.tcp_target.specs.QueueCommands.{executed_at, handed_over_at, run_ended_at}
use Rattle.tcp_target.specs.Ends.{closed_at}
use Rattle.tcp_target.specs.Queues.{free_number, opened_at, place_at, received_at, sent_at}
use Rattle.tcp_target.specs.Clocks.{started_connection}
use Rattle.tcp_target.specs.Target.{TargetState, connection_clock_at, heard, heard_on_io, with_connection_clock, with_queues}

-- a connection begins, at the lowest number that is free, and its clocks with it
abbrev pub opened_as : Option ℕ → TargetState → TargetState
opened_as None t = t
opened_as (Some number) t = with_connection_clock number started_connection t

abbrev pub opened : TargetState → TargetState
opened t = opened_as (free_number t.queues) (with_queues (opened_at (free_number t.queues) t.queues) t)

-- bytes come on a connection, of which so many are taken; what comes on the queues of a controller comes of its host
abbrev pub count_of : ℕ → List ℕ → TargetState → ℕ
count_of number piece t = (places.received piece (place_at number t.queues)).1

abbrev pub heard_on : Role → TargetState → TargetState
heard_on Unconnected t = t
heard_on (Admin id) t = heard id t
heard_on (Io id queue) t = heard_on_io id t
heard_on Ended t = t

abbrev pub heard_at : ℕ → ℕ → TargetState → TargetState
heard_at number count t = if count == 0 then t else heard_on (role_at number t.queues.associations) t

abbrev pub received : ℕ → List ℕ → TargetState → TargetState
received number piece t = heard_at number (count_of number piece t) (with_queues (received_at number piece t.queues) t)

-- so many bytes were taken of what is to be sent on it,
abbrev pub taken_by_host : ℕ → ℕ → TargetState → TargetState
taken_by_host number count t =
    if count == 0 then t else (let clock = connection_clock_at number t in with_connection_clock number (record clock { taken = None }) t)

abbrev pub sent : ℕ → ℕ → TargetState → TargetState
sent number count t = taken_by_host number count (with_queues (sent_at number count t.queues) t)

-- or it was closed

abbrev pub closed : ℕ → TargetState → TargetState
closed number t = with_queues (closed_at number t.queues) t

-- an entry goes to the device, which executes it at once, or runs it for a while
abbrev pub handed_over : ℕ → TargetState → TargetState
handed_over number t = with_queues (handed_over_at number t.queues) t

abbrev pub executed : ℕ → List ℕ → Outcome → List ℕ → TargetState → TargetState
executed number entry outcome bytes t = with_queues (executed_at number entry outcome bytes t.queues) t

abbrev pub run_ended : ℕ → ℕ → Outcome → TargetState → TargetState
run_ended number command outcome t = with_queues (run_ended_at number command outcome t.queues) t
