-- What happens at a place.
use Rattle.std.specs.Prelude.{ℕ, true, false, ◌+◌, ◌-◌, List, [], ◌++◌, drop, if◌then◌else◌}
use Rattle.tcp_connection.specs.declared.queue.Outcome.{Outcome}
use Rattle.tcp_connection.specs.declared.queue.Queue.{Queue}
use Rattle.tcp_connection.specs.declared.state.ConnectionState.{ConnectionState}
use Rattle.tcp_connection.specs.Connection.{begun, taken}
use Rattle.tcp_connection.specs.Executing.{completed, connected, gone}
use Rattle.tcp_target.specs.Places.{PlaceState, goes_on}

-- a connection begins
abbrev pub opened : PlaceState → PlaceState
opened p = record p { connection = begun; is_open = true; unsent = [] }

-- it comes to another state, and sends this
abbrev pub stepped : ConnectionState × List ℕ → PlaceState → PlaceState
stepped step p = record p { connection = step.0; unsent = p.unsent ++ step.1 }

-- bytes come, of which so many are taken
abbrev pub received : List ℕ → PlaceState → PlaceState × ℕ
received piece p =
    if goes_on p then (let t = taken p.connection piece in (stepped (t.state, t.sent) p, t.count)) else (p, 0)

-- the command that is ready goes, and has no completion yet;
abbrev pub kept : PlaceState → PlaceState
kept p = stepped (gone p.connection) p

-- or it goes to the device;
abbrev pub handed_over : PlaceState → PlaceState
handed_over p = let q = kept p in record q { executing = p.executing + 1 }

-- or it is completed at once
abbrev pub completed_at : ℕ → Outcome → List ℕ → PlaceState → PlaceState
completed_at command outcome bytes p = stepped (completed command outcome bytes p.connection) p

abbrev pub answered_at : ℕ → Outcome → List ℕ → PlaceState → PlaceState
answered_at command outcome bytes p = completed_at command outcome bytes (kept p)

-- a Connect succeeds: the queue is set up before its completion
abbrev pub joined : Queue → ℕ → PlaceState → PlaceState
joined queue in_capsule p = record p { connection = connected queue in_capsule p.connection }

abbrev pub connected_at : Queue → ℕ → ℕ → Outcome → PlaceState → PlaceState
connected_at queue in_capsule command outcome p = completed_at command outcome [] (joined queue in_capsule (kept p))

-- the device has executed a command; of a connection that has ended the completion is dropped
abbrev pub returned : PlaceState → PlaceState
returned p = record p { executing = p.executing - 1 }

abbrev pub executed : ℕ → Outcome → List ℕ → PlaceState → PlaceState
executed command outcome bytes p = if p.is_open then completed_at command outcome bytes (returned p) else returned p

-- so many bytes were sent
abbrev pub sent : ℕ → PlaceState → PlaceState
sent count p = record p { unsent = drop count p.unsent }

-- the connection is closed; what was to be sent is forgotten
abbrev pub closed : PlaceState → PlaceState
closed p = record p { is_open = false; unsent = [] }
