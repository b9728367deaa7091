-- What comes on the connections of a target, however it is cut into pieces.
use Rattle.std.specs.Prelude.{ℕ, ◌+◌, List, ◌++◌}
use Rattle.tcp_target.specs.PlaceEvents.{received}
use Rattle.tcp_target.specs.PlacePieces.{JoinsAt, end_of}
use Rattle.tcp_target.specs.Queues.{QueuesState, place_at, received_at}

-- the queues behind a piece of a connection's stream, and how many bytes of it are taken
abbrev pub taken_at : ℕ → List ℕ → QueuesState → QueuesState × ℕ
taken_at number piece s = (received_at number piece s, (received piece (place_at number s)).1)

abbrev pub taken_both_at : ℕ → List ℕ → List ℕ → QueuesState → QueuesState × ℕ
taken_both_at number first second s =
    let one = taken_at number first s in let two = taken_at number second one.0 in (two.0, one.1 + two.1)

-- of each connection's stream two pieces come to what both come to at once, and what stands behind a PDU changes nothing
abbrev pub QueuePiecesJoin : Type 0
QueuePiecesJoin =
    (number : ℕ) (first second : List ℕ) (s : QueuesState)
    → JoinsAt (end_of first (place_at number s)) (taken_both_at number first second s) (taken_at number first s)
    (taken_at number (first ++ second) s)
