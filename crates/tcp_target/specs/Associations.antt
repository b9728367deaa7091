-- Associations: what a Connect, a controller's status and the end of a connection make of them (NVMe Base 2.0, 6.3).
use Rattle.std.specs.Prelude.{ℕ, Bool, true, false, map, ◌==◌, List, length, replicate, Option, Some, None, unwrap_or, Result, Ok, Err, if◌then◌else◌, slice_get, slice_set}
use Rattle.common_definitions.specs.Bytes.{field}
use Rattle.tcp_connection.specs.declared.queue.Outcome.{Outcome}
use Rattle.tcp_target.specs.declared.connected.Connected.{Connected}
use Rattle.tcp_target.specs.declared.connected.Controllers.{Controllers}
use Rattle.tcp_target.specs.declared.connected.NamedController.{NamedController}
use Rattle.tcp_target.specs.declared.connect_data.Host.{Host}
use Rattle.tcp_target.specs.declared.connect_request.ConnectRequest.{ConnectRequest}
use Rattle.tcp_target.specs.ConnectChecks.{connect_answer}
use Rattle.tcp_target.specs.ConnectData.{connect_data_in}
use Rattle.tcp_target.specs.declared.associations.Associations.{Associations}
use Rattle.tcp_target.specs.declared.role.Role.{Role}
use Rattle.tcp_target.specs.declared.role.Role.TheVariants.{Unconnected, Admin, Io, Ended}
use Rattle.tcp_target.specs.declared.table.Association.{Association}
use Rattle.tcp_target.specs.Roles.{role_of, without, without_io}
use Rattle.tcp_target.specs.Table.{free_id, is_ready, named, with_id}

-- no controller, and no connection that has a queue
abbrev pub no_associations : Associations
no_associations = record { controllers = replicate 5 None; roles = replicate 40 Unconnected }

-- what the connection with a number is for
abbrev pub role_at : ℕ → Associations → Role
role_at number s = unwrap_or (slice_get s.roles number) Unconnected

-- ---- Connect

-- the controller that a Connect's data names, which wants all of it
abbrev pub controller_in : List ℕ → Option ℕ
controller_in bytes = if length bytes == 1024 then Some (field bytes 16 2) else None

abbrev pub named_for : Option ℕ → ℕ → Associations → Option NamedController
named_for None queue s = None
named_for (Some id) queue s = named id queue s.controllers s.roles

abbrev pub controllers_for : List ℕ → ℕ → Associations → Controllers
controllers_for bytes queue s = record { named = named_for (controller_in bytes) queue s; free = free_id s.controllers }

abbrev pub answer_of : ConnectRequest → List ℕ → List ℕ → Associations → Result Connected Outcome
answer_of request bytes subsystem_nqn s = connect_answer request bytes subsystem_nqn (controllers_for bytes request.queue s)

-- the connection has the queue; that of an admin queue makes a controller, which isn't ready yet
abbrev pub with_made : Connected → Host → List (Option Association) → List (Option Association)
with_made c host table =
    if c.queue.id == 0 then slice_set table c.controller (Some (record { host = host; is_ready = false })) else table

abbrev pub entered : ℕ → Connected → Host → Associations → Associations
entered number c host s =
    record { controllers = with_made c host s.controllers; roles = slice_set s.roles number (role_of c) }

-- a Connect that is refused changes nothing
abbrev pub joined : ℕ → List ℕ → Result Connected Outcome → Associations → Associations
joined number bytes (Ok c) s = entered number c (connect_data_in bytes).host s
joined number bytes (Err outcome) s = s

-- ---- what happens behind it

-- a controller becomes ready, or isn't any more
abbrev pub with_status : ℕ → Bool → Option Association → List (Option Association) → List (Option Association)
with_status id ready None table = table
with_status id ready (Some association) table = slice_set table id (Some (record association { is_ready = ready }))

abbrev pub controllers_with : ℕ → Bool → List (Option Association) → List (Option Association)
controllers_with id ready table = with_status id ready (with_id id table) table

-- and its I/O queues end where it isn't
abbrev pub roles_with : ℕ → Bool → List Role → List Role
roles_with id true roles = roles
roles_with id false roles = map (λ role. without_io id role) roles

abbrev pub readied : ℕ → Bool → Associations → Associations
readied id ready s = record {
  controllers = controllers_with id ready s.controllers;
  roles = roles_with id ready s.roles;
}

-- a controller ends, and its queues with it
abbrev pub ended : ℕ → Associations → Associations
ended id s = record { controllers = slice_set s.controllers id None; roles = map (λ role. without id role) s.roles }

-- a connection ends: a controller ends with its admin queue's, and doesn't with an I/O queue's
abbrev pub ended_with : Role → Associations → Associations
ended_with Unconnected s = s
ended_with (Admin id) s = ended id s
ended_with (Io id queue) s = s
ended_with Ended s = s

abbrev pub without_role : ℕ → Associations → Associations
without_role number s = record s { roles = slice_set s.roles number Unconnected }

abbrev pub left : ℕ → Associations → Associations
left number s = without_role number (ended_with (role_at number s) s)

-- a connection is live where it has an I/O queue of a controller that is ready
abbrev pub is_live_as : Role → List (Option Association) → Bool
is_live_as Unconnected table = false
is_live_as (Admin id) table = false
is_live_as (Io id queue) table = is_ready id table
is_live_as Ended table = false

abbrev pub is_live : ℕ → Associations → Bool
is_live number s = is_live_as (role_at number s) s.controllers
