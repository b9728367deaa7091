-- The connections of a target by their numbers, and their associations.
use Rattle.std.specs.Prelude.{ℕ, List, position, replicate, Option, Some, None, slice_index_or, slice_set}
use Rattle.tcp_target.specs.declared.associations.Associations.{Associations}
use Rattle.tcp_target.specs.Associations.{no_associations}
use Rattle.tcp_target.specs.Places.{PlaceState, is_free, vacant}
use Rattle.tcp_target.specs.PlaceEvents.{opened, received, sent}

pub record QueuesState : Type 0 where
  pub places : List PlaceState
  pub associations : Associations

abbrev pub no_queues : QueuesState
no_queues = record { places = replicate 40 vacant; associations = no_associations }

-- the place of the connection with a number,
abbrev pub place_at : ℕ → QueuesState → PlaceState
place_at number s = slice_index_or s.places number vacant

-- and the queues where that is another: all other places, and the associations, are as they were
abbrev pub with_place : ℕ → PlaceState → QueuesState → QueuesState
with_place number p s = record s { places = slice_set s.places number p }

-- a connection begins at the lowest number that is free
abbrev pub opened_at : Option ℕ → QueuesState → QueuesState
opened_at None s = s
opened_at (Some number) s = with_place number (opened (place_at number s)) s

abbrev pub free_number : QueuesState → Option ℕ
free_number s = position is_free s.places

-- bytes come on a connection
abbrev pub received_at : ℕ → List ℕ → QueuesState → QueuesState
received_at number piece s = with_place number (received piece (place_at number s)).0 s

-- bytes were sent on it
abbrev pub sent_at : ℕ → ℕ → QueuesState → QueuesState
sent_at number count s = with_place number (sent count (place_at number s)) s
