-- The controllers that there are, by their identifiers, and the associations of hosts with them.
use Rattle.std.specs.Prelude.{ℕ, Bool, false, is_none, List, [], ◌∷◌, find, Option, Some, None, slice_get}
use Rattle.std.specs.List.{list_any}
use Rattle.tcp_target.specs.declared.connected.NamedController.{NamedController}
use Rattle.tcp_target.specs.declared.role.Role.{Role}
use Rattle.tcp_target.specs.declared.table.Association.{Association}
use Rattle.tcp_target.specs.Roles.{is_queue_of}

-- the controller that stands in a place, if one does
abbrev pub standing : Option (Option Association) → Option Association
standing None = None
standing (Some place) = place

-- the one with this identifier, if there is one; no controller has identifier 0
abbrev pub with_id : ℕ → List (Option Association) → Option Association
with_id id table = standing (slice_get table id)

-- the lowest identifier that none has (profile: 1 to 4)
abbrev pub is_free : List (Option Association) → ℕ → Bool
is_free table id = is_none (with_id id table)

abbrev pub free_id : List (Option Association) → Option ℕ
free_id table = find (λ id. is_free table id) (1 ∷ 2 ∷ 3 ∷ 4 ∷ [])

-- there is one with this identifier, and it is ready
abbrev pub ready_at : Option Association → Bool
ready_at None = false
ready_at (Some association) = association.is_ready

abbrev pub is_ready : ℕ → List (Option Association) → Bool
is_ready id table = ready_at (with_id id table)

-- an I/O queue of a controller has a connection
abbrev pub has_connection : ℕ → ℕ → List Role → Bool
has_connection id queue roles = list_any (λ role. is_queue_of id queue role) roles

-- what a Connect to one of its queues meets
abbrev pub named_by : Option Association → ℕ → ℕ → List Role → Option NamedController
named_by None id queue roles = None
named_by (Some association) id queue roles = Some (record {
  host = association.host;
  is_ready = association.is_ready;
  has_connection = has_connection id queue roles;
})

abbrev pub named : ℕ → ℕ → List (Option Association) → List Role → Option NamedController
named id queue table roles = named_by (with_id id table) id queue roles
