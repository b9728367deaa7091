-- How connections and controllers end, and what that does to others.
use Rattle.std.specs.Prelude.{ℕ, Bool, true, false}
use Rattle.tcp_target.specs.declared.role.Role.{Role}
use Rattle.tcp_target.specs.declared.role.Role.TheVariants.{Unconnected, Admin, Io, Ended}
use Rattle.tcp_target.specs.Associations.{ended, left, readied, role_at}
use Rattle.tcp_target.specs.PlaceEvents.{closed}
use Rattle.tcp_target.specs.Queues.{QueuesState, place_at, with_place}

-- a connection is closed: its place is free once the device has none of its commands, and a controller ends with its admin queue's
abbrev pub closed_at : ℕ → QueuesState → QueuesState
closed_at number s = record {
  places = (with_place number (closed (place_at number s)) s).places;
  associations = left number s.associations;
}

-- a controller becomes ready, or isn't any more,
abbrev pub readied_at : ℕ → Bool → QueuesState → QueuesState
readied_at id ready s = record s { associations = readied id ready s.associations }

-- or ends, as where its host was silent too long
abbrev pub controller_ended : ℕ → QueuesState → QueuesState
controller_ended id s = record s { associations = ended id s.associations }

-- what its queues were is to be closed at once
abbrev pub is_ended_role : Role → Bool
is_ended_role Unconnected = false
is_ended_role (Admin id) = false
is_ended_role (Io id queue) = false
is_ended_role Ended = true

abbrev pub is_cut_off : ℕ → QueuesState → Bool
is_cut_off number s = is_ended_role (role_at number s.associations)
